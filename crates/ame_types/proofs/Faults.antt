-- A form's answer, which a test or a table's row gave.
use Rattle.std.proofs.Common.{◌≡◌, ◌+◌, Bool, false, map, Result, Ok, Err, IfOk, ◌∙◌}
use Rattle.ame_term.specs.Tree.{Tree}
use Rattle.ame_term.specs.SourceTerm.{nodes}
use Rattle.ame_term.specs.Shown.{TypeOutcome}
use Rattle.ame_types.specs.Shared.{shared_type, IsListed}
use Rattle.ame_types.specs.Scope.{AreListed}
use Rattle.ame_types.specs.declared.shared_type.SharedType.{SharedType}
use Rattle.ame_types.specs.Fault.{AnswersType, IsFaultOf, PassesTest}
use Rattle.ame_types.specs.Checks.{Checks, KeepsListed, type_outcome, ref_types_after}
use Rattle.ame_types.specs.declared.check_state.Checker.{Checker}
use Rattle.ame_types.specs.declared.check_state.CheckState.{CheckState}
use Rattle.ame_types.specs.declared.type_scope.TypeScope.{TypeScope}
use Rattle.ame_types.specs.declared.site.Site.{Site}
use Rattle.ame_types.specs.declared.fault.CheckFail.{CheckFail}
use Rattle.ame_types.specs.declared.fault.CheckFail.TheVariants as fail

module _ (checker : Checker) (site : Site) (old new : CheckState) (term : Tree) where
  -- a term's outcome is the fault of a test that failed
  pub at_fault : (test : Bool) (fault : TypeOutcome) (e : CheckFail) →
      PassesTest test fault (Err e) → (test ≡ false → type_outcome checker site old term ≡ fault) → Checks checker site old new term (Err e)
  at_fault test fault (fail.Fault f) h k = k h.0 ∙ h.1
  at_fault test fault fail.NoMemory h k = tt

  -- a term's outcome is a fault that was found
  pub at_first : (e : CheckFail) → IsFaultOf (type_outcome checker site old term) e → Checks checker site old new term (Err e)
  at_first (fail.Fault f) h = h
  at_first fail.NoMemory h = tt

  -- a term's outcome is that of its row
  pub by_row : (row : TypeOutcome) (answer : Result SharedType CheckFail) → AnswersType row answer → type_outcome checker site old term ≡ row →
      map shared_type new.ref_tys.items ≡ ref_types_after checker site old term → new.next ≡ old.next + nodes term →
      Checks checker site old new term answer
  by_row row (Ok ty) h k refs next = (k ∙ h, refs, next)
  by_row row (Err (fail.Fault f)) h k refs next = k ∙ h
  by_row row (Err fail.NoMemory) h k refs next = tt

-- a table still has the types of a chain, and has that of an answer
pub keeps : (scope : TypeScope) (new : CheckState) (answer : Result SharedType CheckFail) → AreListed new.types.keys.keys scope →
    IfOk answer (λ ty. IsListed new.types.keys.keys ty) → KeepsListed scope new answer
keeps scope new (Ok ty) outer h = (outer, h)
keeps scope new (Err e) outer h = tt
