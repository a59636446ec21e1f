-- Two proofs that lists of types are equal are one.
use Rattle.std.specs.Prelude.{List}
use Rattle.std.specs.Coded.{Coded-set}
use mathlib.Core.List as lists
use Rattle.ame_term.specs.Tree.{Typ, Typ-set}
use Rattle.ame_term.specs.contracts.types.Sort as sort_row
use Rattle.ame_term.specs.contracts.types.Effect as effect_row

pub types_set : IsSet (List Typ)
types_set = lists.is_set (Typ-set (Coded-set sort_row.the_row.coded) (Coded-set effect_row.the_row.coded))
