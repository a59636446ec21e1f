-- A machine that is at the place of a seat's run.
use Rattle.std.proofs.Common.{◌≡◌, ℕ, ◌+◌, Bool, true, false, List, [], Some, refl, sym, ap, ◌∙◌, subst, arith}
use Rattle.ame_term.specs.Tree.{Val, Tree}
use Rattle.ame_rows.specs.MemoryView.{row_at}
use Rattle.ame_machine.specs.MachineView.{MachineView, OnRun}
use Rattle.ame_protocol.specs.declared.types.Attempt.{Attempt}
use Rattle.ame_protocol.specs.Engine.Parts.{Parts, task_at, term_at, working}
use Rattle.ame_protocol.specs.Engine.Events.{begun_task}
use Rattle.ame_engine.specs.Whole.{resting_at}
use Rattle.ame_engine.specs.AtWork.{is_free, IsOnSeat}

begun-on : (t : Tree) (inside : Bool) → OnRun t [] (resting_at t inside)
begun-on t true = refl
begun-on t false = refl

begun-works : (inside : Bool) (a : Attempt) → working (begun_task inside a) ≡ Some a
begun-works true a = refl
begun-works false a = refl

begun-side : (inside : Bool) (a : Attempt) → is_free (begun_task inside a) ≡ inside
begun-side true a = refl
begun-side false a = refl

-- A machine at rest is at the place of the run of a seat that has begun it.
pub on-begun : (parts : Parts) (seat : ℕ) (a : Attempt) (inside : Bool) (t : Tree) (s : MachineView) → task_at parts.tasks seat ≡ begun_task inside a
    → s ≡ resting_at t inside → term_at parts.pool a.tried.number ≡ t → (row_at parts.memory.rows seat).inputs ≡ [] → a.tried.steps ≡ 0
    → IsOnSeat parts seat s
on-begun parts seat a inside t s task rests starts none steps = record {
  attempt = a;
  has = ap working task ∙ begun-works inside a;
  side = ap (λ (x : MachineView). x.inside) rests ∙ sym (ap is_free task ∙ begun-side inside a);
  run = subst (λ (x : MachineView). OnRun (term_at parts.pool a.tried.number) (row_at parts.memory.rows seat).inputs x) (sym rests)
      (subst (λ (inputs : List Val). OnRun (term_at parts.pool a.tried.number) inputs (resting_at t inside)) (sym none)
      (subst (λ (start : Tree). OnRun start [] (resting_at t inside)) (sym starts) (begun-on t inside)));
  since = ap (λ (x : MachineView). x.steps) rests ∙ since-by ∙ sym (ap (λ (x : MachineView). x.since + a.tried.steps) rests);
}
  where
    since-by : 0 ≡ 0 + a.tried.steps
    since-by = omega (arith, steps)
