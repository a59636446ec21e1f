-- The plain data of a fault, and what an answer says of an outcome of the typing table.
use Rattle.std.specs.Prelude.{◌≡◌, ℕ, Bool, true, false, Result, Ok, Err, ⊤}
use Rattle.ame_term.specs.Tree.{Typ}
use Rattle.ame_term.specs.View.{typ_of}
use Rattle.ame_term.specs.Shown.{Shown, TypeFault, TypeOutcome}
use Rattle.ame_term.specs.Typing.{breaks}
use Rattle.ame_types.specs.declared.shared_type.SharedType.{SharedType}
use Rattle.ame_types.specs.Shared.{shared_type}
use Rattle.ame_types.specs.declared.fault.Shown.{Shown as Showing}
use Rattle.ame_types.specs.declared.fault.Shown.TheVariants as shown
use Rattle.ame_types.specs.declared.fault.SharedShown.{SharedShown}
use Rattle.ame_types.specs.declared.fault.SharedShown.TheVariants as shared
use Rattle.ame_types.specs.declared.fault.TypeFault as told
use Rattle.ame_types.specs.declared.fault.SharedFault.{SharedFault}
use Rattle.ame_types.specs.declared.fault.TypesFail.{TypesFail}
use Rattle.ame_types.specs.declared.fault.TypesFail.TheVariants as fail
use Rattle.ame_types.specs.declared.fault.CheckFail.{CheckFail}
use Rattle.ame_types.specs.declared.fault.CheckFail.TheVariants as check_fail
use Rattle.ame_types.specs.declared.build.BuildFail.{BuildFail}
use Rattle.ame_types.specs.declared.build.BuildFail.TheVariants as build_fail

abbrev pub shown_of : Showing → Shown
shown_of shown.Nothing = Shown.Nothing
shown_of (shown.Ty ty) = Shown.Ty (typ_of ty)
shown_of (shown.Effect effect) = Shown.Effect effect
shown_of (shown.Sort sort) = Shown.Sort sort
shown_of (shown.Device device) = Shown.Device device

abbrev pub fault_of : told.TypeFault → TypeFault
fault_of fault =
    record { rule = fault.rule; place = fault.place; found = shown_of fault.found; wanted = shown_of fault.wanted }

-- the fault is the outcome, unless there is no answer
abbrev pub IsFirstFault : TypeOutcome → TypesFail → Type 0
IsFirstFault outcome (fail.Fault fault) = outcome ≡ Err (fault_of fault)
IsFirstFault outcome fail.TooLarge = Unit {0}
IsFirstFault outcome fail.NoMemory = Unit {0}

-- a fault with types of a table
abbrev pub shared_shown : SharedShown → Shown
shared_shown shared.Nothing = Shown.Nothing
shared_shown (shared.Ty ty) = Shown.Ty (shared_type ty)
shared_shown (shared.Effect effect) = Shown.Effect effect
shared_shown (shared.Sort sort) = Shown.Sort sort
shared_shown (shared.Device device) = Shown.Device device

abbrev pub shared_fault : SharedFault → TypeFault
shared_fault fault =
    record { rule = fault.rule; place = fault.place; found = shared_shown fault.found; wanted = shared_shown fault.wanted }

abbrev pub fail_of_build : BuildFail → TypesFail
fail_of_build build_fail.TooLarge = fail.TooLarge
fail_of_build build_fail.NoMemory = fail.NoMemory

-- the fault of a part at a place, which has the first type in place of the second
abbrev pub mismatch : ℕ → ℕ → Typ → Typ → TypeOutcome
mismatch rule place found wanted = breaks rule place (Shown.Ty found) (Shown.Ty wanted)

-- the fault is the outcome, unless memory ran out
abbrev pub IsFaultOf : TypeOutcome → CheckFail → Type 0
IsFaultOf outcome (check_fail.Fault fault) = outcome ≡ Err (shared_fault fault.value)
IsFaultOf outcome check_fail.NoMemory = Unit {0}

-- the answer is the outcome, unless memory ran out
abbrev pub AnswersType : TypeOutcome → Result SharedType CheckFail → Type 0
AnswersType outcome (Ok ty) = outcome ≡ Ok (shared_type ty)
AnswersType outcome (Err e) = IsFaultOf outcome e

-- the test holds, or it doesn't and the answer is the fault, unless memory ran out
abbrev pub PassesTest : Bool → TypeOutcome → Result ⊤ CheckFail → Type 0
PassesTest test fault (Ok _) = test ≡ true
PassesTest test fault (Err e) = (test ≡ false) × IsFaultOf fault e
