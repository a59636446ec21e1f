-- The commands that clap is given.
use Rattle.std.specs.Prelude.{true, Some, fold, codes}
use Rattle.clap.specs.Words.{App, Rule, new_app, new_rule, with_rule, with_subcommand}
use Rattle.clap.specs.declared.builder.ArgAction.TheVariants.{Append}
use Rattle.ame_cli.specs.declared.item.Item.TheVariants.{Workers, Turns, Slice}
use Rattle.ame_cli.specs.declared.verb.Verb.{Verb}
use Rattle.ame_cli.specs.Items.{ArgWord, name_of}
use Rattle.ame_cli.specs.Verbs.{verbs, verb_word}

abbrev pub option_rule : ArgWord → Rule
option_rule name = record (new_rule name) { long = Some name; action = Some Append }

abbrev pub numbers_rule : Rule
numbers_rule = record (new_rule (codes "numbers")) { action = Some Append }

-- each verb is given to clap with all options and any number words; which of them it may have is tested afterwards
abbrev pub verb_app : ArgWord → App
verb_app word =
    with_rule (with_rule (with_rule (with_rule (new_app word) (option_rule (name_of Workers)))
    (option_rule (name_of Turns))) (option_rule (name_of Slice))) numbers_rule

abbrev pub bare : App
bare = let a = new_app (codes "ame") in record a { top = record a.top { no_binary_name = true; disable_help_flag = true; disable_help_subcommand = true } }

-- one more verb
abbrev pub with_verb : App → Verb → App
with_verb app verb = with_subcommand app (verb_app (verb_word verb)).top

-- all verbs in turn
abbrev pub syntax : App
syntax = fold with_verb bare verbs
