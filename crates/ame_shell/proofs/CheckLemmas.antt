-- A machine whose steps are counted from a check on.
use Rattle.std.proofs.Common.{◌≡◌, ℕ, ◌<◌, length, Option, refl, sym, ap, ◌∙◌, subst, arith}
use Rattle.std.specs.Option.{option_map_or}
use Rattle.ame_rows.specs.MemoryView.{row_at}
use Rattle.ame_machine.specs.MachineView.{MachineView, OnRun}
use Rattle.ame_protocol.specs.declared.types.Attempt.{Attempt}
use Rattle.ame_protocol.specs.declared.types.Task.{Task}
use Rattle.ame_protocol.specs.Engine.Parts.{Parts, task_at, attempt_of, term_at, working}
use Rattle.ame_protocol.specs.Engine.Events.{checked_attempt, has_checked}
use Rattle.ame_protocol.proofs.Engine.StepLemmas.{seat_within, task_here}
use Rattle.ame_protocol.specs.Event.Counting.{Counted, one_counted}
use Rattle.ame_engine.specs.Core.{Core}
use Rattle.ame_protocol.specs.Event.Event.{Event}
use Rattle.ame_engine.specs.Makes.{Makes}
use Rattle.ame_engine.specs.Seen.{parts_of}
use Rattle.ame_engine.proofs.MakesLemmas.{checked-made}
use Rattle.ame_engine.specs.AtWork.{is_free}
use Rattle.ame_shell.specs.Low.{MachineGoesLow, IsLowOnSeat}
use Rattle.ame_shell.specs.Work.{IsAtWork}
use Rattle.ame_shell.proofs.GoesLemmas.{goes}
use Rattle.ame_machine.specs.Meaning.{Meaning}

-- after a valid check
pub checked-goes : (parts : Parts) (seat : ℕ) (s t : MachineView) (x : IsLowOnSeat parts seat s) (a : Attempt) → task_at parts.tasks seat ≡ Task.Running a
    → t ≡ record s { since = 0 } → IsLowOnSeat (has_checked seat s.steps a parts) seat t
checked-goes parts seat s t x a task is =
    let on = x.on in
    let inputs = (row_at parts.memory.rows seat).inputs in
    let within : seat < length parts.tasks = seat_within parts.tasks seat a (ap attempt_of task) in
    let later : Attempt = checked_attempt s.steps a parts in
    let now : task_at (has_checked seat s.steps a parts).tasks seat ≡ Task.Running later = task_here parts.tasks seat (Task.Running later) within in
    let same : on.attempt ≡ a = ap (λ (o : Option Attempt). option_map_or (λ x. x) o a) (sym on.has ∙ ap working task) in
    let run : OnRun (term_at parts.pool a.tried.number) inputs s = subst (λ (x : Attempt). OnRun (term_at parts.pool x.tried.number) inputs s) same on.run in
    let low : MachineGoesLow parts seat a s s.steps = subst (λ (z : Attempt). MachineGoesLow parts seat z s s.steps) same x.low in
    record {
      on = record {
        attempt = later;
        has = ap working now;
        side = ap (λ (z : MachineView). z.inside) is ∙ on.side ∙ ap is_free task ∙ sym (ap is_free now);
        run = subst (OnRun (term_at parts.pool a.tried.number) inputs) (sym is) run;
        since =
            let steps : t.steps ≡ s.steps = ap (λ (z : MachineView). z.steps) is in
            let since : t.since ≡ 0 = ap (λ (z : MachineView). z.since) is in
            omega (arith, steps, since);
      };
      low = subst (λ (z : MachineView). MachineGoesLow parts seat a z z.steps) (sym is) low;
    }

module _ {C V M : Type 0} (meaning : Meaning C V M) where
  pub check-on : (old new : Core C V M) (seat : ℕ) (m n : M) (a : Attempt) → IsAtWork meaning old seat m → task_at old.tasks seat ≡ Task.Running a
      → Makes meaning (Event.Check seat a (meaning.stage old.code m).steps) old new
      → meaning.is_machine old.code n → meaning.stage old.code n ≡ record (meaning.stage old.code m) { since = 0 } → IsAtWork meaning new seat n
  check-on old new seat m n a at task makes machine is =
      let s = meaning.stage old.code m in
      goes meaning (one_counted Counted.Check) (has_checked seat s.steps a) seat old new n (checked-made meaning old new seat a s.steps makes) machine
      (checked-goes (parts_of meaning old) seat s (meaning.stage old.code n) (record { on = at.on.stands; low = at.low }) a task is) refl
      (let since : (meaning.stage old.code n).since ≡ 0 = ap (λ (x : MachineView). x.since) is in omega (arith, since))
