-- The words of `run` spell the command `run`.
use Rattle.std.proofs.Common.{◌≡◌, ℕ, List, [], ◌∷◌, length, get_or, Option, Some, None, option_map, option_and_then, refl, ap, arith}
use Rattle.std.specs.Prelude.{codes}
use Rattle.ame_cli.specs.declared.verb.Verb.{Verb}
use Rattle.ame_cli.specs.declared.command.Options.{Options}
use Rattle.ame_cli.specs.declared.command.Command.{Command}
use Rattle.ame_cli.specs.Items.{ArgWord}
use Rattle.ame_cli.specs.Numbers.{numbers_within}
use Rattle.ame_cli.specs.Verbs.{verb_form, verb_word}
use Rattle.ame_cli.specs.Settings.{options_spelled, command_of}
use Rattle.ame_cli.specs.Grammar.{SpellsCommand, Argument, numbers, given, defaults}

abbrev pub IsRun : Command → Type 0
IsRun command = (options : Options) × (command ≡ Command.Run options)

-- the command that `run` makes of its options
run-made : (words : Option (List ℕ)) (o : Option Options) (command : Command) →
    option_and_then (λ options. option_map (λ (ns : List ℕ). Command.Run options) words) o ≡ Some command → IsRun command
run-made words None command e = cc
run-made None (Some options) command e = cc
run-made (Some ns) (Some options) command e = (options, cc)

module _ (parts : List Argument) (command : Command) where
  named : (verb : Verb) → command_of verb (numbers parts) (given parts) ≡ Some command → verb_word verb ≡ codes "run" → IsRun command
  named Verb.Run is e = run-made (numbers_within (verb_form Verb.Run).numbers (numbers parts)) (options_spelled (verb_form Verb.Run).items (given parts)) command is
  named Verb.Bench is e = absurd (let differ : ◌≡◌ {A = ℕ} 5 3 = ap length e in omega arith)
  named Verb.Sim is e = absurd (let differ : ◌≡◌ {A = ℕ} 115 114 = ap (λ (w : ArgWord). get_or w 0 0) e in omega arith)
  named Verb.Replay is e = absurd (let differ : ◌≡◌ {A = ℕ} 6 3 = ap length e in omega arith)
  named Verb.Check is e = absurd (let differ : ◌≡◌ {A = ℕ} 5 3 = ap length e in omega arith)
  named Verb.Resume is e = absurd (let differ : ◌≡◌ {A = ℕ} 6 3 = ap length e in omega arith)
  named Verb.Weak is e = absurd (let differ : ◌≡◌ {A = ℕ} 4 3 = ap length e in omega arith)

pub run-first : (options words : List ArgWord) (command : Command) → SpellsCommand words command → words ≡ codes "run" ∷ options → IsRun command
run-first options _ _ SpellsCommand.no_words e = cc
run-first options _ _ (SpellsCommand.verb_first verb parts command is) e =
    let first : verb_word verb ≡ codes "run" = cc in named parts command verb is first

pub no-words : (words : List ArgWord) (command : Command) → SpellsCommand words command → words ≡ [] → IsRun command
no-words _ _ SpellsCommand.no_words e = (defaults, refl)
no-words _ _ (SpellsCommand.verb_first verb parts command is) e = cc
