-- The facts that follow when an engine makes an event, and when it makes one.
use Rattle.std.proofs.Common.{◌≡◌, ℕ, ℤ, Option, Some, None, refl, ap, ◌∙◌, sym, subst}
use Rattle.std.specs.Prelude.{is_some}
use Rattle.ame_term.specs.Tree.{Val}
use Rattle.ame_term.specs.declared.types.Loc.{Loc}
use Rattle.ame_term.specs.declared.types.Sort.{Sort}
use Rattle.ame_term.specs.declared.types.TyNo.{TyNo}
use Rattle.ame_machine.specs.Run.Local.{LocalState}
use Rattle.ame_machine.specs.MachineView.{MachineView, place_shown}
use Rattle.ame_machine.specs.Meaning.{Meaning}
use Rattle.ame_protocol.specs.declared.types.Attempt.{Attempt}
use Rattle.ame_protocol.specs.declared.counters.Counters.{Counters}
use Rattle.ame_protocol.specs.declared.stop.Stop.{Stop}
use Rattle.ame_protocol.specs.Engine.Parts.{Parts, task_at}
use Rattle.ame_protocol.specs.Engine.Events.{has_begun, has_read, has_written, has_allocated, has_checked, has_turned_back, has_undone, has_gone_home, has_ended, has_left}
use Rattle.ame_protocol.specs.Waits.Noted.{has_noted}
use Rattle.ame_protocol.specs.Visits.Stops.{has_been_cut, has_grown_tall}
use Rattle.ame_protocol.specs.Visits.Visit.{has_visited, has_been_refused}
use Rattle.ame_rows.specs.MemoryView.{MemoryView}
use Rattle.ame_protocol.specs.Event.Counting.{Counted, one_counted, one_invalid, one_undone}
use Rattle.ame_protocol.specs.Event.Undoing.{reason_to_undo}
use Rattle.ame_protocol.specs.Event.EngineState.{EngineState}
use Rattle.ame_protocol.specs.Event.Event.{Event, Find, Reverse}
use Rattle.ame_protocol.specs.Event.After.{after, counted_find}
use Rattle.ame_protocol.specs.Event.May.{May}
use Rattle.ame_engine.specs.Core.{Core}
use Rattle.ame_engine.specs.Seen.{parts_of, MakesEvent, MakesLastEvent}
use Rattle.ame_engine.specs.Makes.{state_of, Makes, MakesAt}
use Rattle.ame_engine.specs.Committing.{owned_places, ended_at, left_at, ends_at, leaves_at}
use Rattle.ame_engine.specs.Visiting.{visited_at, visits_at}

module _ {C V M : Type 0} (meaning : Meaning C V M) where
  -- an event that keeps no stop, as what it makes of the parts and how it is counted
  module _ (counts : Counters → Counters) (becomes : Parts → Parts) (e : Event) (old new : Core C V M)
      (is : after e (state_of meaning old)
      ≡ record { parts = becomes (parts_of meaning old); counters = counts old.counters; stop = old.stop; certificates = old.certificates }) where
    pub event-made : Makes meaning e old new → MakesEvent meaning counts becomes old new
    event-made m = record {
      code = m.code;
      parts = ap (λ (s : EngineState). s.parts) (m.state ∙ is);
      counted = ap (λ (s : EngineState). s.counters) (m.state ∙ is);
      stop = ap (λ (s : EngineState). s.stop) (m.state ∙ is);
    }

    pub made-event : new.certificates ≡ old.certificates → May e (state_of meaning old) → MakesEvent meaning counts becomes old new → Makes meaning e old new
    made-event told may m = record { code = m.code; may = may; state = by ∙ sym is }
      where
        by : state_of meaning new ≡ record { parts = becomes (parts_of meaning old); counters = counts old.counters; stop = old.stop; certificates = old.certificates }
        by = λ i. record { parts = m.parts i; counters = m.counted i; stop = m.stop i; certificates = told i }

  -- the same of an event that keeps a stop
  module _ (why : Stop) (counts : Counters → Counters) (becomes : Parts → Parts) (e : Event) (old new : Core C V M)
      (is : after e (state_of meaning old)
      ≡ record { parts = becomes (parts_of meaning old); counters = counts old.counters; stop = Some why; certificates = old.certificates }) where
    pub last-made : Makes meaning e old new → MakesLastEvent meaning why counts becomes old new
    last-made m = record {
      code = m.code;
      parts = ap (λ (s : EngineState). s.parts) (m.state ∙ is);
      counted = ap (λ (s : EngineState). s.counters) (m.state ∙ is);
      stop = ap (λ (s : EngineState). s.stop) (m.state ∙ is);
    }

    pub made-last : new.certificates ≡ old.certificates → May e (state_of meaning old) → MakesLastEvent meaning why counts becomes old new → Makes meaning e old new
    made-last told may m = record { code = m.code; may = may; state = by ∙ sym is }
      where
        by : state_of meaning new ≡ record { parts = becomes (parts_of meaning old); counters = counts old.counters; stop = Some why; certificates = old.certificates }
        by = λ i. record { parts = m.parts i; counters = m.counted i; stop = m.stop i; certificates = told i }

-- Each event that an engine makes, as what it makes of the parts and how it is counted

module _ {C V M : Type 0} (meaning : Meaning C V M) (old new : Core C V M) where
  pub begun-made : (seat number : ℕ) → Makes meaning (Event.Begin seat number) old new → MakesEvent meaning (one_counted Counted.Begin) (has_begun seat number) old new
  begun-made seat number = event-made meaning (one_counted Counted.Begin) (has_begun seat number) (Event.Begin seat number) old new refl

  pub read-made : (seat : ℕ) (l : Loc) → Makes meaning (Event.Read seat l) old new → MakesEvent meaning (one_counted Counted.Read) (has_read seat l) old new
  read-made seat l = event-made meaning (one_counted Counted.Read) (has_read seat l) (Event.Read seat l) old new refl

  pub written-made : (seat : ℕ) (l : Loc) (v : Val) → Makes meaning (Event.Write seat l v) old new
      → MakesEvent meaning (one_counted Counted.Write) (has_written seat l v) old new
  written-made seat l v = event-made meaning (one_counted Counted.Write) (has_written seat l v) (Event.Write seat l v) old new refl

  pub allocated-made : (seat : ℕ) (sort : Sort) (number : TyNo) (v : Val) → Makes meaning (Event.Alloc seat sort number v) old new
      → MakesEvent meaning (one_counted Counted.Alloc) (has_allocated seat sort number v) old new
  allocated-made seat sort number v =
      event-made meaning (one_counted Counted.Alloc) (has_allocated seat sort number v) (Event.Alloc seat sort number v) old new refl

  pub checked-made : (seat : ℕ) (attempt : Attempt) (steps : ℕ) → Makes meaning (Event.Check seat attempt steps) old new
      → MakesEvent meaning (one_counted Counted.Check) (has_checked seat steps attempt) old new
  checked-made seat attempt steps = event-made meaning (one_counted Counted.Check) (has_checked seat steps attempt) (Event.Check seat attempt steps) old new refl

  pub met-made : (seat : ℕ) (attempt : Attempt) (l : Loc) (owner : ℕ) → Makes meaning (Event.TurnBack seat attempt (Reverse.Met l owner)) old new
      → MakesEvent meaning (one_counted Counted.Conflict) (has_turned_back seat attempt) old new
  met-made seat attempt l owner =
      event-made meaning (one_counted Counted.Conflict) (has_turned_back seat attempt) (Event.TurnBack seat attempt (Reverse.Met l owner)) old new refl

  pub stale-made : (seat : ℕ) (attempt : Attempt) (find : Find) → Makes meaning (Event.TurnBack seat attempt (Reverse.Stale find)) old new
      → MakesEvent meaning (one_invalid (counted_find find)) (has_turned_back seat attempt) old new
  stale-made seat attempt find =
      event-made meaning (one_invalid (counted_find find)) (has_turned_back seat attempt) (Event.TurnBack seat attempt (Reverse.Stale find)) old new refl

  pub undone-made : (seat : ℕ) (attempt : Attempt) → Makes meaning (Event.Undo seat attempt) old new
      → MakesEvent meaning (one_undone (is_some old.stop)) (has_undone seat attempt (reason_to_undo (task_at old.tasks seat))) old new
  undone-made seat attempt =
      event-made meaning (one_undone (is_some old.stop)) (has_undone seat attempt (reason_to_undo (task_at old.tasks seat))) (Event.Undo seat attempt) old new refl

  pub gone-made : (seat : ℕ) (attempt : Attempt) → Makes meaning (Event.Home seat attempt) old new
      → MakesEvent meaning (one_undone (is_some old.stop)) (has_gone_home seat attempt (reason_to_undo (task_at old.tasks seat))) old new
  gone-made seat attempt =
      event-made meaning (one_undone (is_some old.stop)) (has_gone_home seat attempt (reason_to_undo (task_at old.tasks seat))) (Event.Home seat attempt) old new refl

  -- those at the place of a run, by what a machine shows there
  module _ (s : MachineView) (seat : ℕ) (attempt : Attempt) where
    pub noted-made : MakesAt meaning s None (λ place. Event.Note seat attempt s.steps place) old new
        → MakesEvent meaning (one_counted Counted.Block) (has_noted seat attempt s.steps (place_shown s)) old new
    noted-made at =
        subst (λ (q : LocalState). MakesEvent meaning (one_counted Counted.Block) (has_noted seat attempt s.steps q) old new) at.shows
        (event-made meaning (one_counted Counted.Block) (has_noted seat attempt s.steps at.place) (Event.Note seat attempt s.steps at.place) old new refl at.makes)

    pub ended-made : MakesAt meaning s None (ends_at seat attempt s (parts_of meaning old)) old new
        → MakesEvent meaning (one_counted Counted.Commit) (ended_at seat attempt.tried.number s) old new
    ended-made at =
        let ls = owned_places seat (parts_of meaning old).memory.cells in
        let m =
        subst (λ (q : LocalState). MakesEvent meaning (one_counted Counted.Commit) (has_ended seat attempt.tried.number s.steps q ls) old new) at.shows
        (event-made meaning (one_counted Counted.Commit) (has_ended seat attempt.tried.number s.steps at.place ls) (Event.End seat attempt s.steps at.place ls) old new refl at.makes) in
        record { code = m.code; parts = m.parts; counted = m.counted; stop = m.stop }

    pub left-made : MakesAt meaning s None (leaves_at seat attempt s (parts_of meaning old)) old new
        → MakesEvent meaning (one_counted Counted.Commit) (left_at seat attempt.tried.number s) old new
    left-made at =
        let ls = owned_places seat (parts_of meaning old).memory.cells in
        let m =
        subst (λ (q : LocalState). MakesEvent meaning (one_counted Counted.Commit) (has_left seat attempt.tried.number s.steps q ls) old new) at.shows
        (event-made meaning (one_counted Counted.Commit) (has_left seat attempt.tried.number s.steps at.place ls) (Event.Leave seat attempt s.steps at.place ls) old new refl at.makes) in
        record { code = m.code; parts = m.parts; counted = m.counted; stop = m.stop }

    pub tall-made : MakesAt meaning s None (λ place. Event.Tall seat attempt s.steps place) old new
        → MakesLastEvent meaning (Stop.Tall attempt.tried.number) (one_counted Counted.Tall)
        (has_grown_tall seat attempt.tried.number s.steps (place_shown s) (task_at old.tasks seat)) old new
    tall-made at =
        subst (λ (q : LocalState). MakesLastEvent meaning (Stop.Tall attempt.tried.number) (one_counted Counted.Tall)
        (has_grown_tall seat attempt.tried.number s.steps q (task_at old.tasks seat)) old new) at.shows
        (last-made meaning (Stop.Tall attempt.tried.number) (one_counted Counted.Tall) (has_grown_tall seat attempt.tried.number s.steps at.place (task_at old.tasks seat))
        (Event.Tall seat attempt s.steps at.place) old new refl at.makes)

    pub cut-made : MakesAt meaning s None (λ place. Event.Cut seat attempt s.steps place) old new
        → MakesLastEvent meaning Stop.Spent (λ counters. counters)
        (has_been_cut seat attempt.tried.number s.steps (place_shown s) (task_at old.tasks seat)) old new
    cut-made at =
        subst (λ (q : LocalState). MakesLastEvent meaning Stop.Spent (λ counters. counters)
        (has_been_cut seat attempt.tried.number s.steps q (task_at old.tasks seat)) old new) at.shows
        (last-made meaning Stop.Spent (λ counters. counters) (has_been_cut seat attempt.tried.number s.steps at.place (task_at old.tasks seat))
        (Event.Cut seat attempt s.steps at.place) old new refl at.makes)

  pub refused-made : (seat : ℕ) (attempt : Attempt) (device : ℕ) → Makes meaning (Event.Refuse seat attempt device) old new
      → MakesLastEvent meaning (Stop.DeviceFault device) (one_counted Counted.Free) (has_been_refused seat attempt.tried.number) old new
  refused-made seat attempt device =
      last-made meaning (Stop.DeviceFault device) (one_counted Counted.Free) (has_been_refused seat attempt.tried.number) (Event.Refuse seat attempt device) old new refl

  pub visited-made : (seat : ℕ) (attempt : Attempt) (answer : Option ℤ) (n : MachineView) (memory : MemoryView Val)
      → MakesAt meaning n answer (visits_at seat attempt n memory) old new
      → MakesEvent meaning (one_counted Counted.Free) (visited_at seat attempt.tried.number answer n memory) old new
  visited-made seat attempt answer n memory at =
      let m =
      subst (λ (q : LocalState). MakesEvent meaning (one_counted Counted.Free) (has_visited seat attempt.tried.number n.steps q n.inside memory) old new) at.shows
      (event-made meaning (one_counted Counted.Free) (has_visited seat attempt.tried.number n.steps at.place n.inside memory)
      (Event.Visit seat attempt n.steps at.place n.inside memory) old new refl at.makes) in
      record { code = m.code; parts = m.parts; counted = m.counted; stop = m.stop }
