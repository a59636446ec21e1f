-- Machines of an engine can run.
use Rattle.std.proofs.Common.{◌≡◌, ℕ, Bool, true, false, Some, sym, ap, ◌∙◌, subst}
use Rattle.ame_term.specs.Tree.{Typ, Tree}
use Rattle.ame_term.specs.Frame.{Side, side_told}
use Rattle.ame_term.specs.Context.{focus}
use Rattle.ame_term.specs.State.{at_unprotected}
use Rattle.ame_term.specs.Maps.{at}
use Rattle.ame_laws.proofs.MapLemmas.{each-at}
use Rattle.ame_laws.specs.Typed.TypedState.{IsMember}
use Rattle.ame_journal.specs.Replayed.{has_such}
use Rattle.ame_journal.proofs.ReachedLemmas.{calm-replayed}
use Rattle.ame_pool.specs.Calls.{machine_of}
use Rattle.ame_pool.specs.Keeps.{is_inside_at}
use Rattle.ame_machine.specs.Run.Fit.{IsTypedThroughout}
use Rattle.ame_rows.specs.MemoryView.{row_at}
use Rattle.ame_protocol.specs.Row.Scoped.{live_types}
use Rattle.ame_machine.specs.MachineView.{MachineView}
use Rattle.ame_machine.specs.Sound.{CanRun}
use Rattle.ame_machine.proofs.RunnableLemmas.{runs-typed}
use Rattle.ame_protocol.specs.Engine.Parts.{Parts, whole_journal, heap_in, term_at}
use Rattle.ame_protocol.specs.Engine.Tasks.{RunsProtected, MeetsTask}
use Rattle.ame_protocol.specs.Engine.Simulates.{Simulates}
use Rattle.ame_engine.specs.Whole.{resting_at}
use Rattle.ame_engine.specs.AtWork.{IsOnSeat}
use Rattle.ame_engine.proofs.ReadLemmas.{runs-as}

-- A machine at the place of a seat's run of protected code can run.
pub can-run : (parts : Parts) (s : Simulates parts) (seat : ℕ) (m : MachineView) → IsOnSeat parts seat m → m.inside ≡ false → CanRun m
can-run parts s seat m on outside =
    let start = term_at parts.pool on.attempt.tried.number in
    let inputs = (row_at parts.memory.rows seat).inputs in
    let runs : RunsProtected parts s.types seat on.attempt = subst (MeetsTask parts s.types seat) (runs-as parts seat m on outside) (s.seats seat) in
    let typed = subst (λ (x : Side). IsTypedThroughout parts.signature s.types x start inputs Typ.Unit) (sym (ap side_told outside)) runs.typed.places in
    (parts.signature, s.types, runs-typed parts.signature s.types start inputs m typed on.run (λ inside. absurd (both inside)))
  where
    both : m.inside ≡ true → ⊥
    both inside = cc

-- a machine of a member that is at rest can run
pub rest-runs : (parts : Parts) (s : Simulates parts) (number : ℕ) (t : Tree) (inside : Bool) → machine_of number parts.pool ≡ Some t
    → is_inside_at parts.pool.members number ≡ inside → CanRun (resting_at t inside)
rest-runs parts s number t inside found is =
    let there : at s.r.state.members number ≡ Some t = s.stands.members number ∙ found in
    let types = live_types (heap_in parts) s.types in (
      parts.signature,
      types,
      record {
        member = each-at (λ term. IsMember parts.signature types term) s.r.state.members number t there s.typed.now.members;
        members = tt;
        standing = λ e.
            ap (has_such (λ term. at_unprotected (focus term))) (sym there)
            ∙ (calm-replayed parts.program (whole_journal parts) s.r s.stands.replayed).standing number (s.stands.inside number ∙ is ∙ e);
      },
    )
