-- The premises and answers of the checker's functions.
use Rattle.std.specs.Prelude.{◌≡◌, ◌+◌, ◌≤◌, List, ◌++◌, Result, Ok, Err, length, map, slice_index}
use Rattle.ame_term.specs.Tree.{Typ, Tree}
use Rattle.ame_term.specs.View.{tree_of, function_head}
use Rattle.ame_term.specs.SourceTerm.{nodes, IsSourceTerm, IsBound}
use Rattle.ame_term.specs.Shown.{TypeOutcome}
use Rattle.ame_term.specs.Typing.{typed, ref_types_in, no_cells}
use Rattle.ame_term.specs.declared.term.Function.{Function}
use Rattle.ame_types.specs.Fault.{shared_fault}
use Rattle.ame_types.specs.Shared.{shared_type, IsListed}
use Rattle.ame_types.specs.Scope.{scope_of, names_of, AreListed}
use Rattle.ame_types.specs.declared.shared_type.SharedType.{SharedType}
use Rattle.ame_types.specs.declared.check_state.Checker.{Checker}
use Rattle.ame_types.specs.declared.check_state.CheckState.{CheckState}
use Rattle.ame_types.specs.declared.fault.CheckFail.{CheckFail}
use Rattle.ame_types.specs.declared.fault.CheckFail.TheVariants as fail
use Rattle.ame_types.specs.declared.type_scope.TypeScope.{TypeScope}
use Rattle.ame_types.specs.declared.site.Site.{Site}

-- a function form
abbrev pub function_tree : Function → Tree
function_tree f = Tree.Lambda (function_head f) (tree_of f.body)

-- the outcome of a term whose first node is the next one
abbrev pub type_outcome : Checker → Site → CheckState → Tree → TypeOutcome
type_outcome checker site seen term =
    typed checker.devices no_cells (slice_index checker.places.now) (scope_of site.scope.now) site.effect seen.next term

-- the types that were stored, followed by those that such a term stores
abbrev pub ref_types_after : Checker → Site → CheckState → Tree → List Typ
ref_types_after checker site seen term =
    map shared_type seen.ref_tys.items ++
    ref_types_in checker.devices no_cells (slice_index checker.places.now) (scope_of site.scope.now) site.effect seen.next term

-- The answer to such a term: its type, with what it stores after the rest, and then comes the node
-- after its own; or its first fault, unless memory ran out.
abbrev pub Checks : Checker → Site → CheckState → CheckState → Tree → Result SharedType CheckFail → Type 0
Checks checker site old new term (Ok ty) =
    (type_outcome checker site old term ≡ Ok (shared_type ty)) ×
    (map shared_type new.ref_tys.items ≡ ref_types_after checker site old term) × (new.next ≡ old.next + nodes term)
Checks checker site old new term (Err (fail.Fault fault)) = type_outcome checker site old term ≡ Err (shared_fault fault.value)
Checks checker site old new term (Err fail.NoMemory) = Unit {0}

-- such a term's nodes have places, it is as texts spell terms, and its names are in scope
abbrev pub IsCheckable : Checker → TypeScope → CheckState → Tree → Type 0
IsCheckable checker scope seen term =
    (seen.next + nodes term ≤ length checker.places.now) × IsSourceTerm term × IsBound (names_of scope) term

-- a table that has the types of a chain still has them, and has that of the answer
abbrev pub KeepsListed : TypeScope → CheckState → Result SharedType CheckFail → Type 0
KeepsListed scope new (Ok ty) = AreListed new.types.keys.keys scope × IsListed new.types.keys.keys ty
KeepsListed scope new (Err fail) = Unit {0}
