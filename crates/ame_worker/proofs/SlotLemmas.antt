-- The turn of a seat leaves the slots of the other seats.
use Rattle.std.proofs.Common.{◌≡◌, ℕ, inl, inr, List, Option, Some, None, refl, sym, ap, subst}
use Rattle.std.specs.Prelude.{is_some}
use Rattle.ame_device.specs.declared.told.Told.{Told}
use Rattle.ame_rows.specs.declared.notes.Bad.{Bad}
use Rattle.ame_machine.specs.MachineView.{MachineView, place_shown, with_answer}
use Rattle.ame_protocol.specs.declared.types.Attempt.{Attempt}
use Rattle.ame_protocol.specs.declared.types.Task.{Task}
use Rattle.ame_protocol.specs.Engine.Parts.{Parts, task_at, member_of}
use Rattle.ame_protocol.specs.Engine.Simulates.{Simulates}
use Rattle.ame_protocol.specs.Engine.Events.{has_begun, has_read, has_written, has_allocated, has_checked, has_turned_back, has_undone, has_gone_home}
use Rattle.ame_protocol.specs.Waits.Noted.{has_noted}
use Rattle.ame_protocol.specs.Visits.Stops.{has_been_cut, has_grown_tall}
use Rattle.ame_protocol.specs.Visits.Visit.{has_been_refused}
use Rattle.ame_journal.specs.declared.certificate.Certificate.{Certificate}
use Rattle.ame_engine.specs.declared.pick.Pick.{Pick}
use Rattle.ame_protocol.specs.declared.counters.Counters.{Counters}
use Rattle.ame_protocol.specs.declared.stop.Stop.{Stop}
use Rattle.ame_protocol.specs.Event.Causes.{certificates_in}
use Rattle.ame_engine.specs.Committing.{ended_at, left_at, owned_places}
use Rattle.ame_engine.specs.Core.{Core}
use Rattle.ame_protocol.specs.Event.Counting.{Counted, one_counted, one_invalid, one_undone}
use Rattle.ame_engine.specs.Seen.{parts_of, MakesEvent, MakesLastEvent}
use Rattle.ame_engine.specs.Stops.{stopped_by, blocked_by}
use Rattle.ame_protocol.specs.Event.Undoing.{reason_to_undo}
use Rattle.ame_engine.specs.Visiting.{visited_at, HasComeHome}
use Rattle.ame_shell.specs.declared.work.Outcome.{Outcome}
use Rattle.ame_shell.specs.Outcomes.{StopsBy}
use Rattle.ame_shell.proofs.OutcomeRows.{TurnsBack, Spends, Row, HasRow, rowed}
use Rattle.ame_shell.proofs.VisitedLemmas.{visit-rows}
use Rattle.ame_shell.specs.Shell.{ShellView}
use Rattle.ame_shell.specs.Turned.{HasTurned}
use Rattle.ame_worker.proofs.StopLemmas.{turn-on}
use Rattle.ame_worker.specs.Slots.{SlotsStay}
use Rattle.ame_worker.proofs.StayLemmas.{begun-stays, read-stays, written-stays, allocated-stays, checked-stays, back-stays, noted-stays, cut-stays, tall-stays, refused-stays, undone-stays, gone-stays, ended-stays, left-stays, visited-stays}
use Rattle.ame_machine.specs.Meaning.{Meaning}

module _ {C V M : Type 0} (meaning : Meaning C V M) where
  abbrev parts : Core C V M → Parts
  parts core = parts_of meaning core

  abbrev Stay : ℕ → Core C V M → Core C V M → Type 0
  Stay seat old new = SlotsStay seat (parts old) (parts new)

  module _ (seat : ℕ) (old new : Core C V M) where
    by-event : (counts : Counters → Counters) (event : Parts → Parts) → MakesEvent meaning counts event old new
        → SlotsStay seat (parts old) (event (parts old)) → Stay seat old new
    by-event counts event made stays = subst (λ (p : Parts). SlotsStay seat (parts old) p) (sym made.parts) stays

    by-last : (why : Stop) (counts : Counters → Counters) (event : Parts → Parts) → MakesLastEvent meaning why counts event old new
        → SlotsStay seat (parts old) (event (parts old)) → Stay seat old new
    by-last why counts event made stays = subst (λ (p : Parts). SlotsStay seat (parts old) p) (sym made.parts) stays

    by-same : new ≡ old → Stay seat old new
    by-same is = subst (λ (core : Core C V M). Stay seat old core) (sym is) (λ other apart. refl)

    by-stop : (why : Stop) → new ≡ stopped_by why old → Stay seat old new
    by-stop why is = subst (λ (core : Core C V M). Stay seat old core) (sym is) (λ other apart. refl)

    by-blocked : (certificates : List Certificate) → new ≡ blocked_by certificates old → Stay seat old new
    by-blocked certificates is = subst (λ (core : Core C V M). Stay seat old core) (sym is) (λ other apart. refl)

    -- what a seat meets that stops
    by-pick : (certificates : List Certificate) (pick : Pick) → StopsBy certificates pick old new → Stay seat old new
    by-pick certificates Pick.Stopped h = by-same h
    by-pick certificates Pick.Finished h = by-stop Stop.Finished h
    by-pick certificates Pick.Blocked h = by-blocked certificates h
    by-pick certificates Pick.Spent h = by-stop Stop.Spent h
    by-pick certificates Pick.Idle h = absurd h
    by-pick certificates (Pick.Member number) h = absurd h

    -- it turned back
    by-back : (hand : Option MachineView) (counts : Counters → Counters) (bad : Bad) → TurnsBack meaning seat hand old new counts bad → Stay seat old new
    by-back hand counts bad back = by-event counts (has_turned_back seat back.attempt) back.event (back-stays (parts old) seat back.attempt)

    -- the turns are used up
    by-spent : (hand at : Option MachineView) → Spends meaning seat hand old new at → Stay seat old new
    by-spent hand None h = by-stop Stop.Spent h
    by-spent hand (Some s) (inl cut) =
        let task = task_at old.tasks seat in
        by-last Stop.Spent (λ counters. counters) (has_been_cut seat cut.attempt.tried.number s.steps (place_shown s) task) cut.event
        (cut-stays (parts old) seat cut.attempt.tried.number s.steps (place_shown s) task)
    by-spent hand (Some s) (inr h) = by-stop Stop.Spent h.1

  module _ (seat : ℕ) (old new : Core C V M) (stands : Simulates (parts old)) (hand : Option MachineView) (before after : List Told) where
    -- a member came home from its visit
    by-home : (a : Attempt) → task_at old.tasks seat ≡ Task.Free a → (s : MachineView)
        → HasComeHome meaning seat a.tried.number s before after old new → Stay seat old new
    by-home a task s h =
        let number = a.tried.number in
        by-event seat old new (one_counted Counted.Free) (visited_at seat number h.answer h.comes h.memory) h.event
        (visited-stays (parts old) stands seat number (ap member_of task) h.comes.steps (with_answer h.answer (place_shown h.comes)) h.comes.inside h.memory
        (visit-rows (parts old) number h.comes.steps h.visit.place h.comes.inside h.memory h.visit.visit))

    made-slots : (outcome : Outcome) → Row meaning seat hand old new before after outcome → Stay seat old new
    made-slots Outcome.Began d = by-event seat old new (one_counted Counted.Begin) (has_begun seat d.0) d.2 (begun-stays (parts old) seat d.0)
    made-slots Outcome.Waited d = by-same seat old new d.1
    made-slots Outcome.Stopped d = by-pick seat old new (certificates_in (parts old)) d.0 d.2
    made-slots Outcome.Read d = by-event seat old new (one_counted Counted.Read) (has_read seat d.1) d.3 (read-stays (parts old) seat d.1)
    made-slots Outcome.Wrote d = by-event seat old new (one_counted Counted.Write) (has_written seat d.1 d.2) d.6 (written-stays (parts old) seat d.1 d.2)
    made-slots (Outcome.Met owner) d = by-event seat old new (one_counted Counted.Conflict) (has_turned_back seat d.2) d.6 (back-stays (parts old) seat d.2)
    made-slots Outcome.Allocated d =
        by-event seat old new (one_counted Counted.Alloc) (has_allocated seat d.1 d.2 d.3) d.6 (allocated-stays (parts old) seat d.1 d.2 d.3)
    made-slots Outcome.Checked d =
        by-event seat old new (one_counted Counted.Check) (has_checked seat d.0.steps d.2) d.4 (checked-stays (parts old) seat d.0.steps d.2)
    made-slots (Outcome.FoundInvalid bad) d = by-back seat old new hand (one_invalid Counted.Check) bad d.2
    made-slots Outcome.Ended d =
        by-event seat old new (one_counted Counted.Commit) (ended_at seat d.2.tried.number d.0) d.4
        (ended-stays (parts old) stands seat d.2.tried.number (ap member_of d.3.task) d.0.steps (place_shown d.0) (owned_places seat (parts old).memory.cells))
    made-slots Outcome.Left d =
        by-event seat old new (one_counted Counted.Commit) (left_at seat d.2.tried.number d.0) d.4
        (left-stays (parts old) stands seat d.2.tried.number (ap member_of d.3.task) d.0.steps (place_shown d.0) (owned_places seat (parts old).memory.cells))
    made-slots (Outcome.Refused bad) d = by-back seat old new hand (one_invalid Counted.Commit) bad d.2
    made-slots Outcome.Noted d =
        by-event seat old new (one_counted Counted.Block) (has_noted seat d.2 d.0.steps (place_shown d.0)) d.4
        (noted-stays (parts old) seat d.2 d.0.steps (place_shown d.0))
    made-slots (Outcome.NotNoted bad) d = by-back seat old new hand (one_invalid Counted.Block) bad d.2
    made-slots Outcome.GrewTall d =
        let task = task_at old.tasks seat in
        by-last seat old new (Stop.Tall d.2.tried.number) (one_counted Counted.Tall) (has_grown_tall seat d.2.tried.number d.0.steps (place_shown d.0) task) d.5
        (tall-stays (parts old) seat d.2.tried.number d.0.steps (place_shown d.0) task)
    made-slots (Outcome.NotTall bad) d = by-back seat old new hand (one_invalid Counted.Tall) bad d.2
    made-slots Outcome.CameHome d = by-home d.2 d.3 d.0 d.4
    made-slots (Outcome.DeviceFailed device) d =
        by-last seat old new (Stop.DeviceFault device) (one_counted Counted.Free) (has_been_refused seat d.2.tried.number) d.4.event
        (refused-stays (parts old) seat d.2.tried.number)
    made-slots Outcome.Spent d = by-spent seat old new hand hand d.1
    made-slots Outcome.Undid d =
        let reason = reason_to_undo (task_at old.tasks seat) in
        by-event seat old new (one_undone (is_some old.stop)) (has_undone seat d.0 reason) d.2.event (undone-stays (parts old) seat d.0 reason)
    made-slots Outcome.WentHome d =
        let reason = reason_to_undo (task_at old.tasks seat) in
        by-event seat old new (one_undone (is_some old.stop)) (has_gone_home seat d.0 reason) d.2.event (gone-stays (parts old) seat d.0 reason)
    made-slots Outcome.Lacked d = by-stop seat old new Stop.NoMemory d.1

    module _ (outcome : Outcome) (done : HasRow meaning seat hand old new before after outcome) where
      pub outcome-slots : Stay seat old new
      outcome-slots = made-slots outcome done.event

  -- and so it is of a turn
  module _ (seat : ℕ) (hand : Option MachineView) (old new : ShellView C V M) (outcome : Outcome) (stands : Simulates (parts old.core))
      (turned : HasTurned meaning seat hand old new outcome) where
    pub turn-slots : Stay seat old.core new.core
    turn-slots =
        turn-on meaning seat hand old new outcome turned (λ (core : Core C V M). Stay seat old.core core) (λ core stays. stays)
        (outcome-slots seat old.core turned.core stands hand old.ends.told new.ends.told outcome
        (rowed meaning seat hand old.core turned.core old.ends.told new.ends.told outcome turned.done))
