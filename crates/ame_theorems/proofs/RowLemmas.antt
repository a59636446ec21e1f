-- Rows whose reads are valid, and the machines that run them.
use Rattle.std.proofs.Common.{◌≡◌, ℕ, zero, suc, List, [], Bool, true, false, Option, Some, None, option_map, refl, sym, ap, ◌∙◌, subst}
use Rattle.ame_term.specs.Tree.{Val, Tree}
use Rattle.ame_term.specs.Context.{focus}
use Rattle.ame_term.specs.Frame.{Side, side_told}
use Rattle.ame_term.specs.Maps.{at}
use Rattle.ame_term.specs.State.{State, at_unprotected}
use Rattle.ame_journal.specs.Replayed.{Replayed, has_such, is_at_unprotected}
use Rattle.ame_journal.specs.Replay.{replay}
use Rattle.ame_journal.specs.UnderWay.{UnderWay}
use Rattle.ame_journal.proofs.OneLemmas.{one}
use Rattle.ame_journal.proofs.ReachedLemmas.{calm-replayed}
use Rattle.ame_machine.specs.Run.Local.{LocalState, begun_with, local}
use Rattle.ame_machine.specs.MachineView.{MachineView, OnRun, place_shown, with_answer, without_footprint}
use Rattle.ame_machine.specs.Run.AgreesWith.{IsAfterRun}
use Rattle.ame_machine.proofs.Run.ReplayLemmas.{active_run}
use Rattle.ame_protocol.specs.declared.types.Attempt.{Attempt}
use Rattle.ame_protocol.specs.declared.types.Task.{Task}
use Rattle.ame_protocol.specs.Row.SeatRun.{AreValid, HasUsed, SeatRun}
use Rattle.ame_protocol.specs.Engine.Parts.{Parts, whole_journal, heap_in, task_at, run_in, term_at, working}
use Rattle.ame_protocol.specs.Engine.Simulates.{Simulates}
use Rattle.ame_protocol.specs.Engine.StandsFor.{StandsFor}
use Rattle.ame_protocol.specs.Engine.Tasks.{RunsProtected}
use Rattle.ame_protocol.proofs.Engine.AccessLemmas.{runs}
use Rattle.ame_protocol.proofs.Engine.MemoryLemmas.{memory-committed}
use Rattle.ame_protocol.proofs.Engine.PoolLemmas.{found-machine}
use Rattle.ame_protocol.proofs.Engine.TurnLemmas.{no-run}
use Rattle.ame_protocol.proofs.Row.ValidLemmas.{agrees}
use Rattle.ame_rows.specs.MemoryView.{row_at}
use Rattle.ame_engine.specs.AtWork.{IsOnSeat, is_free}

-- A row whose reads are valid

module _ (parts : Parts) (h : Simulates parts) (r : Replayed) (seat : ℕ) (attempt : Attempt) (n : ℕ) (p : LocalState)
    (there : replay parts.program (whole_journal parts) ≡ Some r) (task : task_at parts.tasks seat ≡ Task.Running attempt)
    (place : HasUsed (run_in parts seat attempt.tried.number) n p) where
  abbrev number : ℕ
  number = attempt.tried.number

  abbrev its_run : SeatRun
  its_run = run_in parts seat number

  its_runs : RunsProtected parts h.types seat attempt
  its_runs = runs parts h seat attempt task

  stands : StandsFor parts r
  stands = subst (StandsFor parts) (one h.r r (replay parts.program (whole_journal parts)) h.stands.replayed there) h.stands

  term-there : at r.state.members number ≡ Some (term_at parts.pool number)
  term-there = stands.members number ∙ found-machine parts.pool number false its_runs.work.busy

  side-of-start : (b : Bool) → is_at_unprotected number r.state ≡ b → at_unprotected (focus its_run.start) ≡ b
  side-of-start b is = sym (ap (has_such (λ (term : Tree). at_unprotected (focus term))) term-there) ∙ is

  pub row-under-way : AreValid (heap_in parts) seat its_run.reads → is_at_unprotected number r.state ≡ false
      → (t : State) × UnderWay r.state number n p.fresh t × IsAfterRun r.state number p t × (at t.members number ≡ Some p.term)
  row-under-way valid calm =
      let a =
      active_run r.state number its_run.start its_run.inputs term-there (calm-replayed parts.program (whole_journal parts) r there).idle
      (side-of-start false calm) n p place.ran
      (agrees (heap_in parts) seat r.state.store (memory-committed parts.memory) stands.store its_run.reads p valid (its_runs.owes.given n p place)) in
      (a.behind, a.way, a.after_run, a.member)

  -- a run that stands at `unprotected` from the first has made no step
  stays-there : (m : ℕ) (q : LocalState) → local Side.Protected its_run.start its_run.inputs m ≡ Some q → at_unprotected (focus its_run.start) ≡ true
      → (m ≡ 0) × (q.term ≡ its_run.start)
  stays-there zero q ran at_it = let same : begun_with its_run.start its_run.inputs ≡ q = cc in (refl, sym (ap (λ (x : LocalState). x.term) same))
  stays-there (suc m) q ran at_it =
      absurd (let clash : ◌≡◌ {A = Option LocalState} None (Some q) = sym (no-run (begun_with its_run.start its_run.inputs) m at_it) ∙ ran in cc)

  pub row-at-unprotected : is_at_unprotected number r.state ≡ true → (n ≡ 0) × (at r.state.members number ≡ Some p.term)
  row-at-unprotected is =
      let there = stays-there n p place.ran (side-of-start true is) in
      (there.0, term-there ∙ ap Some (sym there.1))

-- A machine that stands where such a row stands

-- the place that it shows
record ShowsPlace (start : Tree) (inputs : List Val) (m : MachineView) : Type 0 where
  pub place : LocalState
  pub ran : local Side.Protected start inputs m.steps ≡ Some place
  pub used : place.inputs ≡ []
  pub term : place.term ≡ m.term
  pub fresh : place.fresh ≡ m.fresh

shows-place : (start : Tree) (inputs : List Val) (m : MachineView) → m.inside ≡ false → OnRun start inputs m → ShowsPlace start inputs m
shows-place start inputs m outside on =
    by (local Side.Protected start inputs m.steps) refl
    (ap (λ (b : Bool). option_map without_footprint (local (side_told b) start inputs m.steps)) (sym outside) ∙ on)
  where
    by : (o : Option LocalState) → local Side.Protected start inputs m.steps ≡ o → option_map without_footprint o ≡ Some (with_answer None (place_shown m))
        → ShowsPlace start inputs m
    by None is e = absurd (let clash : ◌≡◌ {A = Option LocalState} None (Some (with_answer None (place_shown m))) = e in cc)
    by (Some p) is e =
        let same : without_footprint p ≡ with_answer None (place_shown m) = cc in
        record {
          place = p;
          ran = is;
          used = ap (λ (q : LocalState). q.inputs) same;
          term = ap (λ (q : LocalState). q.term) same;
          fresh = ap (λ (q : LocalState). q.fresh) same;
        }

pub machine-under-way : (parts : Parts) → Simulates parts → (r : Replayed) (seat : ℕ) (attempt : Attempt) (m : MachineView)
    → replay parts.program (whole_journal parts) ≡ Some r → task_at parts.tasks seat ≡ Task.Running attempt → IsOnSeat parts seat m
    → AreValid (heap_in parts) seat (row_at parts.memory.rows seat).reads → is_at_unprotected attempt.tried.number r.state ≡ false
    → (t : State) × UnderWay r.state attempt.tried.number m.steps m.fresh t × (at t.members attempt.tried.number ≡ Some m.term)
machine-under-way parts h r seat attempt m there task on valid calm =
    let its : ◌≡◌ {A = Option Attempt} (Some on.attempt) (Some attempt) = sym on.has ∙ ap working task in
    let same : on.attempt ≡ attempt = cc in
    let outside : m.inside ≡ false = on.side ∙ ap is_free task in
    let x = shows-place (term_at parts.pool attempt.tried.number) (row_at parts.memory.rows seat).inputs m outside
    (subst (λ (a : Attempt). OnRun (term_at parts.pool a.tried.number) (row_at parts.memory.rows seat).inputs m) same on.run) in
    let y = row-under-way parts h r seat attempt m.steps x.place there task (record { ran = x.ran; used = x.used }) valid calm in
    (y.0, subst (λ (fresh : List ℕ). UnderWay r.state attempt.tried.number m.steps fresh y.0) x.fresh y.1, subst (λ (term : Tree). at y.0.members attempt.tried.number ≡ Some term) x.term y.3)
