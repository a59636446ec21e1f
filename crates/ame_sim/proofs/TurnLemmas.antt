-- A turn of a seat adds at most one entry of that seat to an engine, and at most one turn.
use Rattle.std.proofs.Common.{◌≡◌, ℕ, ◌+◌, inl, inr, Bool, true, false, List, [], ◌∷◌, ◌++◌, Option, Some, None, IsSome, refl, sym, ap, ◌∙◌, subst}
use Rattle.std.specs.Prelude.{is_some, nat_lt, if◌then◌else◌}
use Rattle.ame_device.specs.declared.told.Told.{Told}
use Rattle.ame_journal.specs.declared.entry.Entry.{Entry}
use Rattle.ame_machine.specs.MachineView.{MachineView, place_shown, with_answer}
use Rattle.ame_machine.specs.Meaning.{Meaning}
use Rattle.ame_pool.specs.declared.oldest.Oldest.{Oldest}
use Rattle.ame_pool.specs.Begin.{oldest}
use Rattle.ame_protocol.specs.Engine.Parts.{Parts, task_at}
use Rattle.ame_protocol.specs.Engine.Events.{one_turn, with_task, with_memory, with_try, brought_home, ran_entry, has_begun, has_read, has_written, has_allocated, has_checked, has_turned_back, has_undone, has_gone_home}
use Rattle.ame_protocol.specs.Visits.Stops.{has_grown_tall}
use Rattle.ame_protocol.specs.Visits.Visit.{free_entry, has_been_refused}
use Rattle.ame_protocol.specs.Waits.Noted.{has_noted}
use Rattle.ame_rows.specs.LettingGo.{undone_last}
use Rattle.ame_protocol.specs.declared.types.Task.{Task}
use Rattle.ame_journal.specs.declared.certificate.Certificate.{Certificate}
use Rattle.ame_protocol.specs.declared.counters.Counters.{Counters}
use Rattle.ame_engine.specs.declared.pick.Pick.{Pick}
use Rattle.ame_protocol.specs.declared.stop.Stop.{Stop}
use Rattle.ame_engine.specs.Begins.{pick_by, pick_of}
use Rattle.ame_protocol.specs.Event.Causes.{certificates_in}
use Rattle.ame_engine.specs.Committing.{ended_at, left_at}
use Rattle.ame_engine.specs.Core.{Core}
use Rattle.ame_protocol.specs.Event.Counting.{Counted, one_counted, one_invalid, one_undone}
use Rattle.ame_engine.specs.Seen.{parts_of, MakesEvent, MakesLastEvent}
use Rattle.ame_engine.specs.Stops.{stopped_by}
use Rattle.ame_protocol.specs.Event.Undoing.{reason_to_undo}
use Rattle.ame_engine.specs.Visiting.{visited_at}
use Rattle.ame_shell.specs.declared.work.Outcome.{Outcome}
use Rattle.ame_shell.specs.Outcomes.{StopsBy}
use Rattle.ame_shell.proofs.OutcomeRows.{Spends, HasRow, rowed}
use Rattle.ame_shell.specs.Shell.{ShellView}
use Rattle.ame_shell.specs.Turned.{HasFlushed, is_to_flush, HasTurned}
use Rattle.ame_shell.proofs.OutcomeLemmas.{Adds, outcome-silent}
use Rattle.ame_sim.specs.Picks.{is_waited}

-- an entry of this seat joins, or none
pub data AddsOne (seat : ℕ) (old new : List Entry) : Type 0 where
  nothing : new ≡ old → AddsOne seat old new
  one : (entry : Entry) → new ≡ old ++ entry ∷ [] → entry.seat ≡ seat → AddsOne seat old new

adds-so : (seat : ℕ) (old new : List Entry) → Adds seat old new → AddsOne seat old new
adds-so seat old new (Adds.nothing same) = AddsOne.nothing same
adds-so seat old new (Adds.one entry is its told) = AddsOne.one entry is its

-- one turn more, or none, and a stop
pub data GoesBy (turns later : ℕ) (stop : Option Stop) : Type 0 where
  more : later ≡ turns + 1 → GoesBy turns later stop
  none : later ≡ turns → IsSome stop → GoesBy turns later stop

-- only a kept stop is met as one
by-stop : (stopped spent : Bool) (o : Oldest) → (if stopped then Pick.Stopped else pick_by spent o) ≡ Pick.Stopped → stopped ≡ true
by-stop true spent o e = refl
by-stop false spent Oldest.Empty e = cc
by-stop false spent Oldest.Parked e = cc
by-stop false true (Oldest.Member number) e = cc
by-stop false false (Oldest.Member number) e = cc
by-stop false true Oldest.Wait e = cc
by-stop false false Oldest.Wait e = cc

-- a seat finds no member that may begin only if all wait
by-idle : (stopped spent : Bool) (o : Oldest) → (if stopped then Pick.Stopped else pick_by spent o) ≡ Pick.Idle → o ≡ Oldest.Wait
by-idle true spent o e = cc
by-idle false spent Oldest.Empty e = cc
by-idle false spent Oldest.Parked e = cc
by-idle false true (Oldest.Member number) e = cc
by-idle false false (Oldest.Member number) e = cc
by-idle false spent Oldest.Wait e = refl

module _ {C V M : Type 0} where
  pub idle-waits : (core : Core C V M) → pick_of core ≡ Pick.Idle → oldest core.pool ≡ Oldest.Wait
  idle-waits core met = by-idle (is_some core.stop) (if nat_lt core.turns core.limits.turns then false else true) (oldest core.pool) met

  pub stopped-met : (core : Core C V M) → pick_of core ≡ Pick.Stopped → is_some core.stop ≡ true
  stopped-met core met = by-stop (is_some core.stop) (if nat_lt core.turns core.limits.turns then false else true) (oldest core.pool) met

  -- a seat that begins finds a stop that is kept
  pub stop-met : (core : Core C V M) → is_some core.stop ≡ true → pick_of core ≡ Pick.Stopped
  stop-met core kept =
      ap (λ (b : Bool). if b then Pick.Stopped else pick_by (if nat_lt core.turns core.limits.turns then false else true) (oldest core.pool)) kept

module _ {C V M : Type 0} (meaning : Meaning C V M) where
  abbrev parts : Core C V M → Parts
  parts core = parts_of meaning core

  -- An event

  module _ (seat : ℕ) (hand : Option MachineView) (old new : Core C V M) (before after : List Told) where
    abbrev Done : Outcome → Type 0
    Done outcome = HasRow meaning seat hand old new before after outcome

    outcome-adds : (outcome : Outcome) → Done outcome → AddsOne seat old.entries new.entries
    outcome-adds Outcome.Ended h =
        let e = h.event in
        AddsOne.one (ran_entry seat e.2.tried.number e.0.steps (place_shown e.0)) (ap (λ (p : Parts). p.entries) e.4.parts) refl
    outcome-adds Outcome.Left h =
        let e = h.event in
        AddsOne.one (ran_entry seat e.2.tried.number e.0.steps (place_shown e.0)) (ap (λ (p : Parts). p.entries) e.4.parts) refl
    outcome-adds Outcome.CameHome h =
        let e = h.event in
        let home = e.4 in
        AddsOne.one (free_entry seat e.2.tried.number home.comes.steps (with_answer home.answer (place_shown home.comes)))
        (ap (λ (p : Parts). p.entries) home.event.parts) refl
    outcome-adds (Outcome.DeviceFailed device) h = AddsOne.nothing (ap (λ (p : Parts). p.entries) h.event.4.event.parts)
    outcome-adds outcome h = adds-so seat old.entries new.entries (outcome-silent meaning seat old new hand before after outcome refl refl h.event).recorded.adds

    -- Turns, if no stop is kept

    module _ (going : old.stop ≡ None) where
      abbrev Goes : Type 0
      Goes = GoesBy old.turns new.turns new.stop

      counted : (counts : Counters → Counters) (event : Parts → Parts) → MakesEvent meaning counts event old new
          → (event (parts old)).turns ≡ old.turns + 1 → Goes
      counted by event m up = GoesBy.more (ap (λ (p : Parts). p.turns) m.parts ∙ up)

      last : (why : Stop) (counts : Counters → Counters) (event : Parts → Parts) → MakesLastEvent meaning why counts event old new
          → (event (parts old)).turns ≡ old.turns + 1 → Goes
      last why by event m up = GoesBy.more (ap (λ (p : Parts). p.turns) m.parts ∙ up)

      stopped : (why : Stop) → new ≡ stopped_by why old → Goes
      stopped why is = GoesBy.none (ap (λ (c : Core C V M). c.turns) is) (ap (λ (c : Core C V M). is_some c.stop) is)

      stops-so : (certificates : List Certificate) (pick : Pick) → pick_of old ≡ pick → StopsBy certificates pick old new → Goes
      stops-so certificates Pick.Stopped met is =
          absurd (let clash : false ≡ true = sym (ap is_some going) ∙ stopped-met old met in cc)
      stops-so certificates Pick.Finished met is = stopped Stop.Finished is
      stops-so certificates Pick.Blocked met is = GoesBy.none (ap (λ (c : Core C V M). c.turns) is) (ap (λ (c : Core C V M). is_some c.stop) is)
      stops-so certificates Pick.Spent met is = stopped Stop.Spent is
      stops-so certificates Pick.Idle met is = absurd is
      stops-so certificates (Pick.Member number) met is = absurd is

      spends : (h : Option MachineView) → Spends meaning seat hand old new h → Goes
      spends None is = stopped Stop.Spent is
      spends (Some s) (inl cut) = GoesBy.none (ap (λ (p : Parts). p.turns) cut.event.parts) (ap is_some cut.event.stop)
      spends (Some s) (inr rest) = stopped Stop.Spent rest.1

      undo-counts : (next : Parts) → next.turns ≡ old.turns → (if is_some old.stop then next else one_turn next).turns ≡ old.turns + 1
      undo-counts next same =
          ap (λ (b : Bool). (if b then next else one_turn next).turns) (ap is_some going) ∙ ap (λ (n : ℕ). n + 1) same

      pub outcome-counts : (outcome : Outcome) → is_waited outcome ≡ false → Done outcome → Goes
      outcome-counts Outcome.Began w h = let e = h.event in counted (one_counted Counted.Begin) (has_begun seat e.0) e.2 refl
      outcome-counts Outcome.Waited w h = absurd (let clash : true ≡ false = w in cc)
      outcome-counts Outcome.Stopped w h = let e = h.event in stops-so (certificates_in (parts old)) e.0 e.1.meets e.2
      outcome-counts Outcome.Read w h = let e = h.event in counted (one_counted Counted.Read) (has_read seat e.1) e.3 refl
      outcome-counts Outcome.Wrote w h = let e = h.event in counted (one_counted Counted.Write) (has_written seat e.1 e.2) e.6 refl
      outcome-counts (Outcome.Met owner) w h = let e = h.event in counted (one_counted Counted.Conflict) (has_turned_back seat e.2) e.6 refl
      outcome-counts Outcome.Allocated w h = let e = h.event in counted (one_counted Counted.Alloc) (has_allocated seat e.1 e.2 e.3) e.6 refl
      outcome-counts Outcome.Checked w h = let e = h.event in counted (one_counted Counted.Check) (has_checked seat e.0.steps e.2) e.4 refl
      outcome-counts (Outcome.FoundInvalid bad) w h = let t = h.event.2 in counted (one_invalid Counted.Check) (has_turned_back seat t.attempt) t.event refl
      outcome-counts Outcome.Ended w h = let e = h.event in counted (one_counted Counted.Commit) (ended_at seat e.2.tried.number e.0) e.4 refl
      outcome-counts Outcome.Left w h = let e = h.event in counted (one_counted Counted.Commit) (left_at seat e.2.tried.number e.0) e.4 refl
      outcome-counts (Outcome.Refused bad) w h = let t = h.event.2 in counted (one_invalid Counted.Commit) (has_turned_back seat t.attempt) t.event refl
      outcome-counts Outcome.Noted w h =
          let e = h.event in counted (one_counted Counted.Block) (has_noted seat e.2 e.0.steps (place_shown e.0)) e.4 refl
      outcome-counts (Outcome.NotNoted bad) w h = let t = h.event.2 in counted (one_invalid Counted.Block) (has_turned_back seat t.attempt) t.event refl
      outcome-counts Outcome.GrewTall w h =
          let e = h.event in
          last (Stop.Tall e.2.tried.number) (one_counted Counted.Tall)
          (has_grown_tall seat e.2.tried.number e.0.steps (place_shown e.0) (task_at old.tasks seat)) e.5 refl
      outcome-counts (Outcome.NotTall bad) w h = let t = h.event.2 in counted (one_invalid Counted.Tall) (has_turned_back seat t.attempt) t.event refl
      outcome-counts Outcome.CameHome w h =
          let e = h.event in
          let home = e.4 in
          counted (one_counted Counted.Free) (visited_at seat e.2.tried.number home.answer home.comes home.memory) home.event refl
      outcome-counts (Outcome.DeviceFailed device) w h =
          let e = h.event in last (Stop.DeviceFault device) (one_counted Counted.Free) (has_been_refused seat e.2.tried.number) e.4.event refl
      outcome-counts Outcome.Spent w h = spends hand h.event.1
      outcome-counts Outcome.Undid w h =
          let e = h.event in
          let task = task_at old.tasks seat in
          let next = with_task seat (Task.Undoing e.0 (reason_to_undo task)) (with_memory (undone_last seat (parts old).memory) (parts old)) in
          counted (one_undone (is_some old.stop)) (has_undone seat e.0 (reason_to_undo task)) e.2.event (undo-counts next refl)
      outcome-counts Outcome.WentHome w h =
          let e = h.event in
          let task = task_at old.tasks seat in
          let next = with_task seat Task.Idle (record (parts old) {
            memory = undone_last seat (parts old).memory;
            pool = brought_home (reason_to_undo task) e.0.tried.number (parts old).pool;
            tried = with_try e.0 (parts old).tried;
          }) in
          counted (one_undone (is_some old.stop)) (has_gone_home seat e.0 (reason_to_undo task)) e.2.event (undo-counts next refl)
      outcome-counts Outcome.Lacked w h = stopped Stop.NoMemory h.event.1

  -- A turn

  module _ (seat : ℕ) (hand : Option MachineView) (old new : ShellView C V M) (outcome : Outcome) (turned : HasTurned meaning seat hand old new outcome) where
    -- what is so after the event, with one more stop too, is so after the turn
    pub turn-on : (P : Core C V M → Type 0) → ((core : Core C V M) → P core → P (stopped_by Stop.WriteFault core)) → P turned.core → P new.core
    turn-on P stops h = by (is_to_flush outcome) refl
      where
        flushed : (mid : ShellView C V M) → P mid.core → HasFlushed mid new → P new.core
        flushed mid h (HasFlushed.sends appended stays same sent) = subst P (sym same) h
        flushed mid h (HasFlushed.fails gone first short risen same sent) = subst P (sym same) (stops mid.core h)

        by : (b : Bool) → is_to_flush outcome ≡ b → P new.core
        by true e = flushed (record { core = turned.core; sent = old.sent; ends = record old.ends { told = new.ends.told } }) h (turned.flushes e)
        by false e = subst P (sym (ap (λ (x : ShellView C V M). x.core) (turned.stays e))) h

    pub turn-adds : AddsOne seat old.core.entries new.core.entries
    turn-adds =
        turn-on (λ (core : Core C V M). AddsOne seat old.core.entries core.entries) (λ core x. x)
        (outcome-adds seat hand old.core turned.core old.ends.told new.ends.told outcome
        (rowed meaning seat hand old.core turned.core old.ends.told new.ends.told outcome turned.done))

    pub turn-counts : old.core.stop ≡ None → is_waited outcome ≡ false → GoesBy old.core.turns new.core.turns new.core.stop
    turn-counts going did =
        turn-on (λ (core : Core C V M). GoesBy old.core.turns core.turns core.stop) still
        (outcome-counts seat hand old.core turned.core old.ends.told new.ends.told going outcome did
        (rowed meaning seat hand old.core turned.core old.ends.told new.ends.told outcome turned.done))
      where
        still : (core : Core C V M) → GoesBy old.core.turns core.turns core.stop → GoesBy old.core.turns core.turns (stopped_by Stop.WriteFault core).stop
        still core (GoesBy.more counted) = GoesBy.more counted
        still core (GoesBy.none same kept) = GoesBy.none same refl

    -- a seat that has to wait is idle, and nothing changes
    pub record HasWaited : Type 0 where
      pub idle : task_at old.core.tasks seat ≡ Task.Idle
      pub met : pick_of old.core ≡ Pick.Idle
      pub same : new.core ≡ old.core

  pub turn-waits : (seat : ℕ) (hand : Option MachineView) (old new : ShellView C V M) (outcome : Outcome) (turned : HasTurned meaning seat hand old new outcome)
      → is_waited outcome ≡ true → HasWaited seat hand old new outcome turned
  turn-waits seat hand old new Outcome.Waited turned w =
      let e = (rowed meaning seat hand old.core turned.core old.ends.told new.ends.told Outcome.Waited turned.done).event in
      record { idle = e.0.idle; met = e.0.meets; same = ap (λ (x : ShellView C V M). x.core) (turned.stays refl) ∙ e.1 }
  turn-waits seat hand old new _ turned w = cc
