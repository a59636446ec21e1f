-- The options of a command, their bounds and their defaults.
use Rattle.std.specs.Prelude.{ℕ, List, Bool, codes}
use Rattle.std.specs.Str.{bytes_eq}
use Rattle.ame_cli.specs.declared.bounds.Bounds.{Bounds}
use Rattle.ame_cli.specs.declared.item.Item.{Item}
use Rattle.ame_cli.specs.declared.item.Item.TheVariants.{Workers, Turns, Slice}
use Rattle.ame_cli.specs.Limits.{worker_limit, turn_limit, slice_limit}

-- the bytes of a word
abbrev pub ArgWord : Type 0
ArgWord = List ℕ

-- the name
abbrev pub name_of : Item → ArgWord
name_of Workers = codes "workers"
name_of Turns = codes "turns"
name_of Slice = codes "slice"

-- the least and the greatest number
abbrev pub bounds_of : Item → Bounds
bounds_of Workers = record { least = 1; most = worker_limit }
bounds_of Turns = record { least = 1; most = turn_limit }
bounds_of Slice = record { least = 1; most = slice_limit }

-- the number if it isn't given
abbrev pub default_of : Item → ℕ
default_of Workers = 1
default_of Turns = 1000000
default_of Slice = 1000

-- the two are one option: they have one name
abbrev pub is_same : Item → Item → Bool
is_same item other = bytes_eq (name_of other) (name_of item)
