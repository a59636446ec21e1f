-- Which lists of words spell which command.
use Rattle.std.specs.Prelude.{◌≡◌, List, [], ◌∷◌, ◌++◌, Some, codes, if◌then◌else◌}
use Rattle.std.specs.List.{flat_map}
use Rattle.ame_cli.specs.declared.item.Item.{Item}
use Rattle.ame_cli.specs.declared.item.Item.TheVariants.{Workers, Turns, Slice}
use Rattle.ame_cli.specs.declared.verb.Verb.{Verb}
use Rattle.ame_cli.specs.declared.command.Options.{Options}
use Rattle.ame_cli.specs.declared.command.Command.{Command}
use Rattle.ame_cli.specs.declared.command.Command.TheVariants.{Run}
use Rattle.ame_cli.specs.Items.{ArgWord, name_of, default_of, is_same}
use Rattle.ame_cli.specs.Verbs.{verb_word}
use Rattle.ame_cli.specs.Settings.{command_of}

-- a part after the first word: an option and its value, as two words or as one with `=` between, or
-- a number word
pub data Argument : Type 0 where
  apart : Item → ArgWord → Argument
  joined : Item → ArgWord → Argument
  number : ArgWord → Argument

-- the words of a part
abbrev pub part_words : Argument → List ArgWord
part_words (apart item value) = (codes "--" ++ name_of item) ∷ value ∷ []
part_words (joined item value) = (codes "--" ++ name_of item ++ codes "=" ++ value) ∷ []
part_words (number word) = word ∷ []

-- the value that a part gives an option
abbrev pub given_by : Item → Argument → List ArgWord
given_by item (apart other value) = if is_same item other then value ∷ [] else []
given_by item (joined other value) = if is_same item other then value ∷ [] else []
given_by item (number word) = []

-- the number word that a part is
abbrev pub number_by : Argument → List ArgWord
number_by (apart item value) = []
number_by (joined item value) = []
number_by (number word) = word ∷ []

-- all values that an option is given
abbrev pub given : List Argument → Item → List ArgWord
given parts item = flat_map (given_by item) parts

-- all number words, in order
abbrev pub numbers : List Argument → List ArgWord
numbers parts = flat_map number_by parts

-- no option is given
abbrev pub defaults : Options
defaults = record { workers = default_of Workers; turns = default_of Turns; slice = default_of Slice }

-- No words are `run` with the defaults. Otherwise a verb stands first, and then parts in any order, and the verb makes them a
-- command: each option that the verb may be given at most once and no other, as many number words as the verb takes, and
-- each number in its bounds.
pub data SpellsCommand : List ArgWord → Command → Type 0 where
  no_words : SpellsCommand [] (Run defaults)
  verb_first : (verb : Verb) (parts : List Argument) (command : Command)
      → command_of verb (numbers parts) (given parts) ≡ Some command
      → SpellsCommand (verb_word verb ∷ flat_map part_words parts) command

-- the words spell no command
abbrev pub SpellsNothing : List ArgWord → Type 0
SpellsNothing words = (command : Command) → SpellsCommand words command → ⊥
