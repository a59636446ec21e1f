-- The words with which a list begins, and the words that may follow each.
use Rattle.std.specs.Prelude.{ℕ, List, [], ◌∷◌, Option, codes, find, slice_index}
use Rattle.std.specs.Str.{bytes_eq}
use Rattle.ame_cli.specs.declared.bounds.Bounds.{Bounds}
use Rattle.ame_cli.specs.declared.item.Item.{Item}
use Rattle.ame_cli.specs.declared.item.Item.TheVariants.{Workers, Turns, Slice}
use Rattle.ame_cli.specs.declared.verb.Verb.{Verb}
use Rattle.ame_cli.specs.declared.verb.Verb.TheVariants.{Run, Bench, Sim, Replay, Check, Resume, Weak}
use Rattle.ame_cli.specs.declared.command.Options.{Options}
use Rattle.ame_cli.specs.declared.command.Command.{Command}
use Rattle.ame_cli.specs.declared.command.Command.TheVariants as command
use Rattle.ame_cli.specs.Limits.{seed_limit, size_limit}
use Rattle.ame_cli.specs.Items.{ArgWord}

-- a verb: its word, the bounds of its number words in their order, and the options that it may be given
pub record VerbForm : Type 0 where
  pub word : ArgWord
  pub numbers : List Bounds
  pub items : List Item

-- a seed is at most 65,536
abbrev pub seeds : Bounds
seeds = record { least = 0; most = seed_limit }

-- a size is 1 to 4,000
abbrev pub sizes : Bounds
sizes = record { least = 1; most = size_limit }

-- all options
abbrev pub all_items : List Item
all_items = Workers ∷ Turns ∷ Slice ∷ []

-- a row for each verb
abbrev pub verb_form : Verb → VerbForm
verb_form Run = record { word = codes "run"; numbers = []; items = all_items }
verb_form Bench = record { word = codes "bench"; numbers = seeds ∷ sizes ∷ []; items = all_items }
verb_form Sim = record { word = codes "sim"; numbers = seeds ∷ []; items = all_items }
verb_form Replay = record { word = codes "replay"; numbers = []; items = all_items }
verb_form Check = record { word = codes "check"; numbers = []; items = [] }
verb_form Resume = record { word = codes "resume"; numbers = []; items = all_items }
verb_form Weak = record { word = codes "weak"; numbers = seeds ∷ []; items = Turns ∷ [] }

-- what a verb makes of its numbers and of the options
abbrev pub command_with : Verb → List ℕ → Options → Command
command_with Run numbers options = command.Run options
command_with Bench numbers options = command.Bench (slice_index numbers 0) (slice_index numbers 1) options
command_with Sim numbers options = command.Sim (slice_index numbers 0) options
command_with Replay numbers options = command.Replay options
command_with Check numbers options = command.Check
command_with Resume numbers options = command.Resume options
command_with Weak numbers options = command.Weak (slice_index numbers 0) options.turns

-- all verbs
unfoldable pub verbs : List Verb
verbs = Run ∷ Bench ∷ Sim ∷ Replay ∷ Check ∷ Resume ∷ Weak ∷ []

-- the word of a verb
abbrev pub verb_word : Verb → ArgWord
verb_word verb = (verb_form verb).word

-- the verb of a word
abbrev pub verb_named : ArgWord → Option Verb
verb_named word = find (λ verb. bytes_eq (verb_word verb) word) verbs
