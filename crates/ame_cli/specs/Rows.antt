-- The finds of clap for a command.
use Rattle.std.specs.Prelude.{List, [], Option, unwrap_or, option_and_then, codes}
use Rattle.clap.specs.Words.{Row, all_of}
use Rattle.ame_cli.specs.declared.command.Command.{Command}
use Rattle.ame_cli.specs.Items.{ArgWord, name_of}
use Rattle.ame_cli.specs.Verbs.{verb_named}
use Rattle.ame_cli.specs.Settings.{command_of}

-- no texts, if there are none
abbrev pub texts_in : Option (List ArgWord) → List ArgWord
texts_in texts = unwrap_or texts []

-- the texts that were given under a name
abbrev pub values_in : ArgWord → List Row → List ArgWord
values_in name rows = texts_in (all_of name rows)

-- the command of a verb's name and of what was found for it
abbrev pub named_in : ArgWord → List Row → Option Command
named_in name rows = option_and_then (λ verb. command_of verb (values_in (codes "numbers") rows) (λ item. values_in (name_of item) rows)) (verb_named name)
