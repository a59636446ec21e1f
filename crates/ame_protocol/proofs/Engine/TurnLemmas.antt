-- A check of a row, and a seat that turns back.
use Rattle.std.proofs.Common.{◌≡◌, ℕ, zero, suc, ◌+◌, ◌*◌, ◌<◌, ◌≤◌, Bool, true, false, List, [], ◌∷◌, set, length, Option, Some, None, length-set, refl, sym, ap, ◌∙◌, subst, arith}
use Rattle.std.specs.Prelude.{option_map, option_and_then, is_none, if◌then◌else◌}
use Rattle.std.proofs.Math.Nat.{mul-suc}
use Rattle.std.proofs.Math.Numerals.{add-one}
use Rattle.ame_term.specs.Tree.{Val, Tree}
use Rattle.ame_term.specs.Frame.{Side}
use Rattle.ame_term.specs.Context.{Focus, focus}
use Rattle.ame_term.specs.Act.{Act, act_of}
use Rattle.ame_term.specs.Maps.{at}
use Rattle.ame_term.specs.State.{at_unprotected}
use Rattle.ame_journal.specs.Replay.{or_else}
use Rattle.ame_journal.proofs.ReachedLemmas.{calm-replayed}
use Rattle.ame_machine.specs.Run.Local.{LocalState, begun_with, acts_alone, fed_next, acted, acted_at, refilled_in, one_step, goes, local}
use Rattle.ame_protocol.specs.Row.Heap.{cell_at}
use Rattle.ame_protocol.specs.Row.SeatRun.{HasUsed, AreValid}
use Rattle.ame_protocol.specs.Row.Framed.{IsFramedAt}
use Rattle.ame_protocol.proofs.Row.TryLemmas.{try-checked}
use Rattle.ame_protocol.specs.declared.types.Attempt.{Attempt}
use Rattle.ame_protocol.specs.declared.types.UndoReason.{UndoReason}
use Rattle.ame_protocol.specs.declared.types.Task.{Task}
use Rattle.ame_protocol.specs.Engine.Parts.{Parts, whole_journal, heap_in, task_at, attempt_of, member_of, term_at, run_in}
use Rattle.ame_protocol.specs.Engine.Tasks.{HasAtWork, RunsProtected, MeetsTask}
use Rattle.ame_protocol.specs.Engine.Simulates.{Simulates}
use Rattle.ame_protocol.specs.Engine.Events.{checked_attempt, has_checked, has_turned_back}
use Rattle.ame_protocol.proofs.Engine.MemoryLemmas.{memory-committed}
use Rattle.ame_protocol.proofs.Engine.PoolLemmas.{found-machine}
use Rattle.ame_protocol.proofs.Engine.CarryLemmas.{work-on}
use Rattle.ame_protocol.proofs.Engine.StepLemmas.{seat_within, few-later, acted as acted_on, goes_on, stays_busy, act, task_here, task_else}
use Rattle.ame_protocol.proofs.Engine.AccessLemmas.{runs}

-- A member that stands at `unprotected` makes no step as protected code

closes-none : (v : Val) (inputs : List Val) (p : LocalState) → or_else (acts_alone (Act.Closes v) Side.Protected p) (fed_next (Act.Closes v) Side.Protected inputs p) ≡ None
closes-none v [] p = refl
closes-none v (w ∷ inputs) p = refl

stuck-none : (inputs : List Val) (p : LocalState) → or_else (acts_alone Act.Stuck Side.Protected p) (fed_next Act.Stuck Side.Protected inputs p) ≡ None
stuck-none [] p = refl
stuck-none (w ∷ inputs) p = refl

calm : (part : Tree) (p : LocalState) → acted (act_of (Tree.Unprotected part)) Side.Protected p ≡ None
unfolding act_of
calm (Tree.Held v) p = closes-none v p.inputs p
calm _ p = stuck-none p.inputs p

calm-at : (f : Focus) (p : LocalState) → at_unprotected f ≡ true → acted_at Side.Protected f p ≡ None
calm-at (Focus.AtValue v) p e = refl
calm-at (Focus.AtRedex Side.Unprotected redex) p e = refl
calm-at (Focus.AtRedex Side.Protected (Tree.Unprotected part)) p e = calm part p
calm-at (Focus.AtRedex Side.Protected _) p e = absurd (let clash : false ≡ true = e in cc)

no-step : (p : LocalState) → at_unprotected (focus p.term) ≡ true → one_step Side.Protected p ≡ None
unfolding one_step
no-step p e =
    ap (λ (x : Option (Tree × LocalState)). if is_none p.answer then option_map (refilled_in p.term) x else None) (calm-at (focus p.term) p e)
    ∙ same (is_none p.answer)
  where
    same : (b : Bool) → (if b then option_map (refilled_in p.term) None else None) ≡ None
    same true = refl
    same false = refl

pub no-run : (p : LocalState) (k : ℕ) → at_unprotected (focus p.term) ≡ true → goes Side.Protected p (suc k) ≡ None
no-run p zero e = no-step p e
no-run p (suc k) e = ap (option_and_then (one_step Side.Protected)) (no-run p k e)

-- so a member that made a step doesn't stand there
pub calm-start : (term : Tree) (inputs : List Val) (n : ℕ) (p : LocalState) → local Side.Protected term inputs n ≡ Some p → 0 < n → at_unprotected (focus term) ≡ false
calm-start term inputs n p ran some = by (at_unprotected (focus term)) refl
  where
    clash : (m : ℕ) → local Side.Protected term inputs m ≡ Some p → 0 < m → at_unprotected (focus term) ≡ true → ⊥
    clash zero ran some e = omega arith
    clash (suc k) ran some e = let both : ◌≡◌ {A = Option LocalState} None (Some p) = sym (no-run (begun_with term inputs) k e) ∙ ran in cc

    by : (b : Bool) → at_unprotected (focus term) ≡ b → at_unprotected (focus term) ≡ false
    by true e = absurd (clash n ran some e)
    by false e = e

module _ (parts : Parts) (s : Simulates parts) (seat : ℕ) (attempt : Attempt) (task : task_at parts.tasks seat ≡ Task.Running attempt)
    (left : parts.turns < parts.limits.turns) where
  abbrev later : ℕ
  later = parts.turns + 1

  abbrev tasks_with : Task → List Task
  tasks_with next = set parts.tasks seat next

  at_seat : seat < length parts.tasks
  at_seat = seat_within parts.tasks seat attempt (ap attempt_of task)

  -- another task of the same member
  retask : (next : Task) → member_of next ≡ Some attempt.tried.number → MeetsTask (acted_on parts.memory (tasks_with next) later parts) s.types seat next
      → Simulates (acted_on parts.memory (tasks_with next) later parts)
  retask next member meets =
      act parts s seat parts.memory (tasks_with next) later (record {
        types = s.types;
        grows = λ m c e. e;
        later = omega arith;
        left = omega arith;
        committed = λ l. refl;
        consistent = s.consistent;
        framed = λ other apart. record { places = λ m. IsFramedAt.stays refl refl; longer = omega arith };
        rows = λ other apart. refl;
        row_count = refl;
        tasks_stay = task_else parts.tasks seat next;
        member = ap member_of (task_here parts.tasks seat next at_seat) ∙ member ∙ sym (ap member_of task);
        task_count = length-set parts.tasks seat next;
        heap = s.typed.heap;
        shared = s.typed.shared;
        numbers = λ m. few-later parts.turns later (cell_at (heap_in parts) m) (omega arith) (s.bounded.numbers m);
        cells = let h = s.bounded.cells in omega arith;
        own = subst (MeetsTask (acted_on parts.memory (tasks_with next) later parts) s.types seat) (sym (task_here parts.tasks seat next at_seat)) meets;
      })

  its-runs : RunsProtected parts s.types seat attempt
  its-runs = runs parts s seat attempt task

  its-work : (tasks : List Task) → HasAtWork (acted_on parts.memory tasks later parts) false attempt
  its-work tasks =
      work-on parts (acted_on parts.memory tasks later parts) false attempt (goes_on parts parts.memory tasks later (omega arith))
      (stays_busy parts parts.memory tasks later attempt.tried.number) its-runs.work

  pub turned_back : Simulates (has_turned_back seat attempt parts)
  turned_back =
      let next = Task.Undoing attempt UndoReason.RolledBack in
      retask next refl (record { work = its-work (tasks_with next); outside = its-runs.outside; undos = its-runs.typed.undos })

  module _ (n : ℕ) (p : LocalState) (place : HasUsed (run_in parts seat attempt.tried.number) n p) (some : 0 < n)
      (few : n ≤ attempt.tried.steps + parts.limits.slice) (valid : AreValid (heap_in parts) seat (run_in parts seat attempt.tried.number).reads) where
    abbrev checked : Attempt
    checked = checked_attempt n attempt parts

    few-checked : n ≤ parts.limits.slice * later
    few-checked =
        let h = its-runs.work.few in
        let e = mul-suc parts.limits.slice parts.turns in
        let f = ap (λ (x : ℕ). parts.limits.slice * x) (add-one parts.turns) in
        omega arith

    member-there : at s.r.state.members attempt.tried.number ≡ Some (term_at parts.pool attempt.tried.number)
    member-there = s.stands.members attempt.tried.number ∙ found-machine parts.pool attempt.tried.number false its-runs.work.busy

    check-work : HasAtWork (acted_on parts.memory (tasks_with (Task.Running checked)) later parts) false checked
    check-work = record {
      busy = its-runs.work.busy;
      sound =
          try-checked parts.program (whole_journal parts) s.r (heap_in parts) seat attempt.tried.number (run_in parts seat attempt.tried.number) n p
          s.stands.replayed (memory-committed parts.memory) s.stands.store its-runs.owes.given valid place (calm-replayed parts.program (whole_journal parts) s.r s.stands.replayed).idle
          (calm-start (term_at parts.pool attempt.tried.number) (run_in parts seat attempt.tried.number).inputs n p place.ran some) member-there;
      few = few-checked;
    }

    pub checked_stands : Simulates (has_checked seat n attempt parts)
    checked_stands =
        retask (Task.Running checked) refl (record {
          work = check-work;
          outside = its-runs.outside;
          somewhere = its-runs.somewhere;
          owes = its-runs.owes;
          typed = its-runs.typed;
          scoped = its-runs.scoped;
        })
