-- The nodes of the types of an answer, and their limit.
use Rattle.std.specs.Prelude.{ℕ, ◌+◌, ◌<◌, ◌≤◌, List, map, sum, Result, Ok, Err}
use Rattle.ame_term.specs.Tree.{Typ}
use Rattle.ame_term.specs.Shown.{Shown, TypeOutcome}
use Rattle.ame_types.specs.declared.fault.TypesFail.{TypesFail}
use Rattle.ame_types.specs.declared.fault.TypesFail.TheVariants as fail

-- the most nodes that the types of an answer may have together
abbrev pub max_type_nodes : ℕ
max_type_nodes = 1048576

abbrev pub type_nodes : Typ → ℕ
type_nodes Typ.Unit = 1
type_nodes Typ.Bool = 1
type_nodes Typ.Int = 1
type_nodes (Typ.Ref sort content) = type_nodes content + 1
type_nodes (Typ.Fun effect param result) = type_nodes param + type_nodes result + 1
type_nodes (Typ.Pair first second) = type_nodes first + type_nodes second + 1

abbrev pub shown_nodes : Shown → ℕ
shown_nodes (Shown.Ty ty) = type_nodes ty
shown_nodes _ = 0

-- the nodes of the types that an accepted program stores, or that the fault shows
abbrev pub answer_nodes : TypeOutcome → List Typ → ℕ
answer_nodes (Ok ty) stored = sum (map type_nodes stored)
answer_nodes (Err fault) stored = shown_nodes fault.found + shown_nodes fault.wanted

-- An answer whose types have this many nodes is too large if and only if they are too many, unless memory ran out.
abbrev pub IsFailSized : ℕ → TypesFail → Type 0
IsFailSized n (fail.Fault fault) = n ≤ max_type_nodes
IsFailSized n fail.TooLarge = max_type_nodes < n
IsFailSized n fail.NoMemory = Unit {0}

abbrev pub IsSized : {X : Type 0} → ℕ → Result X TypesFail → Type 0
IsSized n (Ok _) = n ≤ max_type_nodes
IsSized n (Err e) = IsFailSized n e
