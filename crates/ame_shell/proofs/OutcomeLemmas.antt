-- The effect of a seat's events on an engine and its devices.
use Rattle.std.proofs.Common.{◌≡◌, ℕ, ◌<◌, inl, inr, Bool, true, false, List, [], ◌∷◌, ◌++◌, Option, Some, None, append_assoc, refl, sym, ap, ◌∙◌, subst}
use Rattle.std.specs.Prelude.{ℤ, is_some, unwrap_or, if◌then◌else◌}
use Rattle.std.proofs.lemmas.List.Elements.{All-push}
use Rattle.ame_term.specs.Tree.{Val}
use Rattle.ame_io.specs.Counts.{HasRisen}
use Rattle.ame_device.specs.declared.told.Told.{Told}
use Rattle.ame_journal.specs.declared.entry.Entry.{Entry}
use Rattle.ame_journal.specs.declared.entry.EntryKind.{EntryKind}
use Rattle.ame_journal.specs.Calls.{device_calls}
use Rattle.ame_rows.specs.MemoryView.{MemoryView}
use Rattle.ame_rows.specs.LettingGo.{undone_last}
use Rattle.ame_machine.specs.MachineView.{MachineView, place_shown, with_answer}
use Rattle.ame_machine.specs.Sound.{IsSoundStage}
use Rattle.ame_protocol.specs.declared.types.Attempt.{Attempt}
use Rattle.ame_protocol.specs.declared.types.Limits.{Limits}
use Rattle.ame_protocol.specs.declared.types.Task.{Task}
use Rattle.ame_protocol.specs.Engine.Parts.{Parts, task_at, working}
use Rattle.ame_protocol.specs.Engine.Simulates.{Simulates}
use Rattle.ame_protocol.specs.Engine.Events.{one_turn, undo_turn, with_task, with_memory, with_try, brought_home, ran_entry, has_begun, has_read, has_written, has_allocated, has_checked, has_turned_back, has_undone, has_gone_home}
use Rattle.ame_protocol.specs.Waits.Noted.{stuck_entry, has_noted}
use Rattle.ame_protocol.specs.Visits.Visit.{free_entry}
use Rattle.ame_protocol.specs.Visits.Stops.{note_entry, has_been_cut, has_grown_tall}
use Rattle.ame_protocol.proofs.Visits.CallLemmas.{silent-entry}
use Rattle.ame_protocol.specs.declared.counters.Counters.{Counters}
use Rattle.ame_engine.specs.declared.pick.Pick.{Pick}
use Rattle.ame_journal.specs.declared.certificate.Certificate.{Certificate}
use Rattle.ame_protocol.specs.declared.stop.Stop.{Stop}
use Rattle.ame_engine.specs.AtWork.{IsOnSeat}
use Rattle.ame_engine.specs.Begins.{pick_of}
use Rattle.ame_protocol.specs.Event.Causes.{certificates_in}
use Rattle.ame_engine.specs.Committing.{ended_at, left_at}
use Rattle.ame_engine.specs.Core.{Core}
use Rattle.ame_protocol.specs.Event.Counting.{Counted, one_counted, one_invalid, one_undone}
use Rattle.ame_engine.specs.Seen.{parts_of, MakesEvent, MakesLastEvent}
use Rattle.ame_engine.specs.Stops.{stopped_by, blocked_by}
use Rattle.ame_protocol.specs.Event.Undoing.{reason_to_undo}
use Rattle.ame_engine.specs.Visiting.{VisitsTo, visited_at, HasComeHome, HasBeenRefused}
use Rattle.ame_engine.proofs.VisitPlaceLemmas.{visits-as}
use Rattle.ame_shell.specs.declared.work.Outcome.{Outcome}
use Rattle.ame_shell.specs.Outcomes.{StopsBy, is_visit}
use Rattle.ame_shell.proofs.OutcomeRows.{Spends, Row, HasRow}
use Rattle.ame_shell.specs.Ends.{told_at}
use Rattle.ame_shell.specs.Heard.{HaveHeardSince, NoneFailed, OneFailed, HaveFailed}
use Rattle.ame_shell.specs.Over.{AreOfSeats}
use Rattle.ame_shell.specs.Shell.{Opening, IsOpenedSo}
use Rattle.ame_shell.specs.Turned.{is_to_flush}
use Rattle.ame_shell.proofs.HeardLemmas.{heard-silent, heard-failed}
use Rattle.ame_shell.proofs.ToldLemmas.{fail-count, failed-heard, failed-kind, failed-one, called-faults}
use Rattle.ame_shell.proofs.StopLemmas.{is_quiet, GoesQuietly, stops-by, quiet-failed}
use Rattle.ame_shell.proofs.VisitLemmas.{visit-heard}
use Rattle.ame_machine.specs.Meaning.{Meaning}

-- a journal grows by one entry of this seat that has no answer, or not at all
pub data Adds (seat : ℕ) (old new : List Entry) : Type 0 where
  nothing : new ≡ old → Adds seat old new
  one : (entry : Entry) → new ≡ old ++ entry ∷ [] → entry.seat ≡ seat → entry.answer ≡ None → Adds seat old new

seats-last : (n : ℕ) (old new : List Entry) (entry : Entry) → new ≡ old ++ entry ∷ [] → entry.seat < n → AreOfSeats n old → AreOfSeats n new
seats-last n old new entry is within all = subst (AreOfSeats n) (sym is) (All-push (λ (e : Entry). e.seat < n) old entry all within)

seats-add : (seat n : ℕ) (old new : List Entry) → seat < n → Adds seat old new → AreOfSeats n old → AreOfSeats n new
seats-add seat n old new within (Adds.nothing same) all = subst (AreOfSeats n) (sym same) all
seats-add seat n old new within (Adds.one entry is its none) all = seats-last n old new entry is (subst (λ (k : ℕ). k < n) (sym its) within) all

-- no device failed before, and none since, or one
none-then : (a b c : List Told) → NoneFailed a b → NoneFailed b c → NoneFailed a c
none-then a b c f g = λ k. g k ∙ f k

one-then : (a b c : List Told) (device : ℕ) → NoneFailed a b → OneFailed device b c → OneFailed device a c
one-then a b c device f g = record {
  risen = subst (λ (n : ℕ). HasRisen n (told_at c device).faults) (f device) g.risen;
  others = λ other apart. g.others other apart ∙ f other;
}

-- one more entry of a journal with a base
behind : (base old new : List Entry) (entry : Entry) → new ≡ old ++ entry ∷ [] → base ++ new ≡ (base ++ old) ++ entry ∷ []
behind base old new entry is = ap (λ (es : List Entry). base ++ es) is ∙ sym (append_assoc base old (entry ∷ []))

-- what isn't changed by an undo, which may count a turn
undo-limits : (parts : Parts) → (undo_turn parts).limits ≡ parts.limits
undo-limits parts = by parts.stopped
  where
    by : (b : Bool) → (if b then parts else one_turn parts).limits ≡ parts.limits
    by true = refl
    by false = refl

undo-base : (parts : Parts) → (undo_turn parts).base ≡ parts.base
undo-base parts = by parts.stopped
  where
    by : (b : Bool) → (if b then parts else one_turn parts).base ≡ parts.base
    by true = refl
    by false = refl

undo-entries : (parts : Parts) → (undo_turn parts).entries ≡ parts.entries
undo-entries parts = by parts.stopped
  where
    by : (b : Bool) → (if b then parts else one_turn parts).entries ≡ parts.entries
    by true = refl
    by false = refl

undo-output : (parts : Parts) → (undo_turn parts).output ≡ parts.output
undo-output parts = by parts.stopped
  where
    by : (b : Bool) → (if b then parts else one_turn parts).output ≡ parts.output
    by true = refl
    by false = refl

module _ {C V M : Type 0} (meaning : Meaning C V M) where
  abbrev parts : Core C V M → Parts
  parts core = parts_of meaning core

  -- an event that calls no device
  pub record IsRecorded (seat : ℕ) (old new : Core C V M) : Type 0 where
    pub code : new.code ≡ old.code
    pub limits : new.limits ≡ old.limits
    pub base : new.base ≡ old.base
    pub adds : Adds seat old.entries new.entries
    pub stop : GoesQuietly old.stop new.stop

  -- and no sink
  pub record IsSilent (seat : ℕ) (old new : Core C V M) : Type 0 where
    pub recorded : IsRecorded seat old new
    pub output : new.output ≡ old.output

  -- An event by what it makes of the parts

  module _ (seat : ℕ) (old new : Core C V M) where
    silent-by : (q : Parts) → new.code ≡ old.code → parts new ≡ q → q.limits ≡ old.limits → q.base ≡ old.base → Adds seat old.entries q.entries
        → q.output ≡ old.output → GoesQuietly old.stop new.stop → IsSilent seat old new
    silent-by q code is limits base adds output stop = record {
      recorded = record {
        code = code;
        limits = ap (λ (p : Parts). p.limits) is ∙ limits;
        base = ap (λ (p : Parts). p.base) is ∙ base;
        adds = subst (λ (p : Parts). Adds seat old.entries p.entries) (sym is) adds;
        stop = stop;
      };
      output = ap (λ (p : Parts). p.output) is ∙ output;
    }

    event-silent : (counts : Counters → Counters) (event : Parts → Parts) → MakesEvent meaning counts event old new
        → (event (parts old)).limits ≡ old.limits → (event (parts old)).base ≡ old.base → Adds seat old.entries (event (parts old)).entries
        → (event (parts old)).output ≡ old.output → IsSilent seat old new
    event-silent counts event m limits base adds output = silent-by (event (parts old)) m.code m.parts limits base adds output (GoesQuietly.stays m.stop)

    last-silent : (why : Stop) (counts : Counters → Counters) (event : Parts → Parts) → is_quiet why ≡ true → old.stop ≡ None
        → MakesLastEvent meaning why counts event old new
        → (event (parts old)).limits ≡ old.limits → (event (parts old)).base ≡ old.base → Adds seat old.entries (event (parts old)).entries
        → (event (parts old)).output ≡ old.output → IsSilent seat old new
    last-silent why counts event quiet going m limits base adds output =
        silent-by (event (parts old)) m.code m.parts limits base adds output (GoesQuietly.stops why quiet going m.stop)

    same-silent : new ≡ old → IsSilent seat old new
    same-silent same =
        silent-by (parts old) (ap (λ (c : Core C V M). c.code) same) (ap parts same) refl refl (Adds.nothing refl) refl (GoesQuietly.stays (ap (λ (c : Core C V M). c.stop) same))

    stop-silent : (why : Stop) → is_quiet why ≡ true → new ≡ stopped_by why old → IsSilent seat old new
    stop-silent why quiet is =
        silent-by (parts (stopped_by why old)) (ap (λ (c : Core C V M). c.code) is) (ap parts is) refl refl (Adds.nothing refl) refl
        (subst (λ (c : Core C V M). GoesQuietly old.stop c.stop) (sym is) (stops-by why quiet old.stop))

    block-going : (o : Option Stop) (x : Pick) → (if is_some o then Pick.Stopped else x) ≡ Pick.Blocked → o ≡ None
    block-going None x e = refl
    block-going (Some why) x e = cc

    block-silent : (certificates : List Certificate) → pick_of old ≡ Pick.Blocked → new ≡ blocked_by certificates old → IsSilent seat old new
    block-silent certificates pick is =
        silent-by (parts (blocked_by certificates old)) (ap (λ (c : Core C V M). c.code) is) (ap parts is) refl refl (Adds.nothing refl) refl
        (GoesQuietly.stops Stop.Blocked refl (block-going old.stop _ pick) (ap (λ (c : Core C V M). c.stop) is))

    -- what a seat meets that stops
    stops-silent : (certificates : List Certificate) (pick : Pick) → pick_of old ≡ pick → StopsBy certificates pick old new → IsSilent seat old new
    stops-silent certificates Pick.Stopped e h = same-silent h
    stops-silent certificates Pick.Finished e h = stop-silent Stop.Finished refl h
    stops-silent certificates Pick.Blocked e h = block-silent certificates e h
    stops-silent certificates Pick.Spent e h = stop-silent Stop.Spent refl h
    stops-silent certificates Pick.Idle e h = absurd h
    stops-silent certificates (Pick.Member number) e h = absurd h

    -- the turns are used up
    spends-silent : (hand at : Option MachineView) → old.stop ≡ None → Spends meaning seat hand old new at → IsSilent seat old new
    spends-silent hand None going h = stop-silent Stop.Spent refl h
    spends-silent hand (Some s) going (inl cut) =
        let number = cut.attempt.tried.number in
        last-silent Stop.Spent (λ counters. counters) (has_been_cut seat number s.steps (place_shown s) (task_at old.tasks seat)) refl going cut.event
        refl refl (Adds.one (note_entry EntryKind.Cut seat number s.steps (place_shown s)) refl refl refl) refl
    spends-silent hand (Some s) going (inr h) = stop-silent Stop.Spent refl h.1

    -- the rest of what changes neither devices nor the output
    module _ (hand : Option MachineView) (before after : List Told) where
      abbrev Makes : Outcome → Type 0
      Makes outcome = Row meaning seat hand old new before after outcome

      pub outcome-silent : (outcome : Outcome) → is_to_flush outcome ≡ false → is_visit outcome ≡ false → Makes outcome → IsSilent seat old new
      outcome-silent Outcome.Began e f h = event-silent (one_counted Counted.Begin) (has_begun seat h.0) h.2 refl refl (Adds.nothing refl) refl
      outcome-silent Outcome.Waited e f h = same-silent h.1
      outcome-silent Outcome.Stopped e f h = stops-silent (certificates_in (parts old)) h.0 h.1.meets h.2
      outcome-silent Outcome.Read e f h = event-silent (one_counted Counted.Read) (has_read seat h.1) h.3 refl refl (Adds.nothing refl) refl
      outcome-silent Outcome.Wrote e f h =
          event-silent (one_counted Counted.Write) (has_written seat h.1 h.2) h.6 refl refl (Adds.nothing refl) refl
      outcome-silent (Outcome.Met owner) e f h =
          event-silent (one_counted Counted.Conflict) (has_turned_back seat h.2) h.6 refl refl (Adds.nothing refl) refl
      outcome-silent Outcome.Allocated e f h =
          event-silent (one_counted Counted.Alloc) (has_allocated seat h.1 h.2 h.3) h.6 refl refl (Adds.nothing refl) refl
      outcome-silent Outcome.Checked e f h =
          event-silent (one_counted Counted.Check) (has_checked seat h.0.steps h.2) h.4 refl refl (Adds.nothing refl) refl
      outcome-silent (Outcome.FoundInvalid bad) e f h =
          event-silent (one_invalid Counted.Check) (has_turned_back seat h.2.attempt) h.2.event refl refl (Adds.nothing refl) refl
      outcome-silent (Outcome.Refused bad) e f h =
          event-silent (one_invalid Counted.Commit) (has_turned_back seat h.2.attempt) h.2.event refl refl (Adds.nothing refl) refl
      outcome-silent Outcome.Noted e f h =
          event-silent (one_counted Counted.Block) (has_noted seat h.2 h.0.steps (place_shown h.0)) h.4 refl refl
          (Adds.one (stuck_entry seat h.2.tried.number h.0.steps (place_shown h.0)) refl refl refl) refl
      outcome-silent (Outcome.NotNoted bad) e f h =
          event-silent (one_invalid Counted.Block) (has_turned_back seat h.2.attempt) h.2.event refl refl (Adds.nothing refl) refl
      outcome-silent Outcome.GrewTall e f h =
          last-silent (Stop.Tall h.2.tried.number) (one_counted Counted.Tall)
          (has_grown_tall seat h.2.tried.number h.0.steps (place_shown h.0) (task_at old.tasks seat)) refl h.1.goes.going h.5 refl refl
          (Adds.one (note_entry EntryKind.Tall seat h.2.tried.number h.0.steps (place_shown h.0)) refl refl refl) refl
      outcome-silent (Outcome.NotTall bad) e f h =
          event-silent (one_invalid Counted.Tall) (has_turned_back seat h.2.attempt) h.2.event refl refl (Adds.nothing refl) refl
      outcome-silent Outcome.Spent e f h = spends-silent hand hand h.0.going h.1
      outcome-silent Outcome.Undid e f h =
          let task = task_at old.tasks seat in
          let undone = with_task seat (Task.Undoing h.0 (reason_to_undo task)) (with_memory (undone_last seat (parts old).memory) (parts old)) in
          event-silent (one_undone (is_some old.stop)) (has_undone seat h.0 (reason_to_undo task)) h.2.event
          (undo-limits undone) (undo-base undone) (Adds.nothing (undo-entries undone)) (undo-output undone)
      outcome-silent Outcome.WentHome e f h =
          let task = task_at old.tasks seat in
          let gone = with_task seat Task.Idle (record (parts old) {
            memory = undone_last seat (parts old).memory;
            pool = brought_home (reason_to_undo task) h.0.tried.number (parts old).pool;
            tried = with_try h.0 (parts old).tried;
          }) in
          event-silent (one_undone (is_some old.stop)) (has_gone_home seat h.0 (reason_to_undo task)) h.2.event
          (undo-limits gone) (undo-base gone) (Adds.nothing (undo-entries gone)) (undo-output gone)
      outcome-silent Outcome.Lacked e f h = stop-silent Stop.NoMemory refl h.1
      outcome-silent Outcome.Ended e f h = cc
      outcome-silent Outcome.Left e f h = cc
      outcome-silent Outcome.CameHome e f h = cc
      outcome-silent (Outcome.DeviceFailed device) e f h = cc

  -- Devices have heard what the journal says

  module _ (seat : ℕ) (old new : Core C V M) (stands : Simulates (parts old)) (within : seat < old.limits.seats) (opening : Opening C) where
    heard-adds : (told : List Told) → new.code ≡ old.code → new.base ≡ old.base → Adds seat old.entries new.entries
        → HaveHeardSince (meaning.program old.code) old.base old.entries opening.ends.told told → HaveHeardSince (meaning.program new.code) new.base new.entries opening.ends.told told
    heard-adds told code base adds h =
        subst (λ (c : C). HaveHeardSince (meaning.program c) new.base new.entries opening.ends.told told) (sym code)
        (subst (λ (b : List Entry). HaveHeardSince (meaning.program old.code) b new.entries opening.ends.told told) (sym base) (by adds))
      where
        by : Adds seat old.entries new.entries → HaveHeardSince (meaning.program old.code) old.base new.entries opening.ends.told told
        by (Adds.nothing same) = subst (λ (es : List Entry). HaveHeardSince (meaning.program old.code) old.base es opening.ends.told told) (sym same) h
        by (Adds.one entry is its none) =
            heard-silent (meaning.program old.code) old.base opening.ends.told old.entries new.entries told
            (λ k. ap (device_calls k (meaning.program old.code)) (behind old.base old.entries new.entries entry is) ∙ silent-entry (parts old) stands k entry none) h

    pub recorded-opened : (told : List Told) → IsRecorded seat old new → IsOpenedSo meaning.program opening old told → IsOpenedSo meaning.program opening new told
    recorded-opened told r o = record {
      code = r.code ∙ o.code;
      limits = r.limits ∙ o.limits;
      base = r.base ∙ o.base;
      seats = subst (λ (l : Limits). AreOfSeats l.seats new.entries) (sym r.limits) (seats-add seat old.limits.seats old.entries new.entries within r.adds o.seats);
      heard = heard-adds told r.code r.base r.adds o.heard;
      failed = quiet-failed opening.ends.told told old.stop new.stop r.stop o.failed;
    }

    -- A commit, and a visit

    ended-recorded : (s : MachineView) (a : Attempt) → MakesEvent meaning (one_counted Counted.Commit) (ended_at seat a.tried.number s) old new
        → IsRecorded seat old new
    ended-recorded s a m = record {
      code = m.code;
      limits = ap (λ (p : Parts). p.limits) m.parts;
      base = ap (λ (p : Parts). p.base) m.parts;
      adds = Adds.one (ran_entry seat a.tried.number s.steps (place_shown s)) (ap (λ (p : Parts). p.entries) m.parts) refl refl;
      stop = GoesQuietly.stays m.stop;
    }

    left-recorded : (s : MachineView) (a : Attempt) → MakesEvent meaning (one_counted Counted.Commit) (left_at seat a.tried.number s) old new
        → IsRecorded seat old new
    left-recorded s a m = record {
      code = m.code;
      limits = ap (λ (p : Parts). p.limits) m.parts;
      base = ap (λ (p : Parts). p.base) m.parts;
      adds = Adds.one (ran_entry seat a.tried.number s.steps (place_shown s)) (ap (λ (p : Parts). p.entries) m.parts) refl refl;
      stop = GoesQuietly.stays m.stop;
    }

    -- no device fails by a visit that comes home
    visit-faults : (s : MachineView) (before : List Told) (a : Option ℤ) (n : MachineView) (memory : MemoryView Val) (after : List Told)
        → VisitsTo s (parts old).memory before a n memory after → NoneFailed before after
    visit-faults s before _ _ _ _ (VisitsTo.rests still) = λ k. refl
    visit-faults s before _ _ _ _ (VisitsTo.reads l v n its is fed) = λ k. refl
    visit-faults s before _ _ _ _ (VisitsTo.peeks l v n its is fed) = λ k. refl
    visit-faults s before _ _ _ _ (VisitsTo.writes l v n its sets fed) = λ k. refl
    visit-faults s before _ _ _ _ (VisitsTo.makes sort number v n its sets fed) = λ k. refl
    visit-faults s before _ _ _ _ (VisitsTo.spawns n its fed) = λ k. refl
    visit-faults s before _ _ _ _ (VisitsTo.prints i n its fed) = λ k. refl
    visit-faults s before _ _ _ _ (VisitsTo.closes n its closes) = λ k. refl
    visit-faults s before _ _ _ after (VisitsTo.calls device argument answer n _ its called fed) = called-faults before after device argument answer called

    module _ (s : MachineView) (on : IsOnSeat (parts old) seat s) (sound : IsSoundStage s) (inside : s.inside ≡ true) (a : Attempt)
        (task : task_at old.tasks seat ≡ Task.Free a) (before after : List Told) (o : IsOpenedSo meaning.program opening old before) where
      one-number : on.attempt.tried.number ≡ a.tried.number
      one-number =
          ap (λ (t : Task). (unwrap_or (working t) a).tried.number) (sym (visits-as (parts old) seat s on inside) ∙ task)

      home-opened : old.stop ≡ None → HasComeHome meaning seat a.tried.number s before after old new → IsOpenedSo meaning.program opening new after
      home-opened going h =
          let m = h.event in
          let entry = free_entry seat a.tried.number h.comes.steps (with_answer h.answer (place_shown h.comes)) in
          let limits : new.limits ≡ old.limits = ap (λ (p : Parts). p.limits) m.parts in
          let entries : new.entries ≡ old.entries ++ entry ∷ [] = ap (λ (p : Parts). p.entries) m.parts in
          let heard : HaveHeardSince (meaning.program old.code) old.base (visited_at seat on.attempt.tried.number h.answer h.comes h.memory (parts old)).entries opening.ends.told after =
          visit-heard (parts old) stands seat s on inside sound opening.ends.told before o.heard h.answer h.comes h.memory after h.visits in
          let numbered : HaveHeardSince (meaning.program old.code) old.base (visited_at seat a.tried.number h.answer h.comes h.memory (parts old)).entries opening.ends.told after =
          subst (λ (i : ℕ). HaveHeardSince (meaning.program old.code) old.base (visited_at seat i h.answer h.comes h.memory (parts old)).entries opening.ends.told after) one-number heard in
          record {
            code = m.code ∙ o.code;
            limits = limits ∙ o.limits;
            base = ap (λ (p : Parts). p.base) m.parts ∙ o.base;
            seats = subst (λ (l : Limits). AreOfSeats l.seats new.entries) (sym limits) (seats-last old.limits.seats old.entries new.entries entry entries within o.seats);
            heard =
                subst (λ (c : C). HaveHeardSince (meaning.program c) new.base new.entries opening.ends.told after) (sym m.code)
                (subst (λ (p : Parts). HaveHeardSince (meaning.program old.code) p.base p.entries opening.ends.told after) (sym m.parts) numbered);
            failed =
                subst (λ (x : Option Stop). HaveFailed x opening.ends.told after) (sym (m.stop ∙ going))
                (none-then opening.ends.told before after (subst (λ (x : Option Stop). HaveFailed x opening.ends.told before) going o.failed)
                (visit-faults s before h.answer h.comes h.memory after h.visits));
          }

      refused-opened : old.stop ≡ None → (device : ℕ) → HasBeenRefused meaning seat a.tried.number device s before after old new
          → IsOpenedSo meaning.program opening new after
      refused-opened going device h =
          let m = h.event in
          let limits : new.limits ≡ old.limits = ap (λ (p : Parts). p.limits) m.parts in
          let base : new.base ≡ old.base = ap (λ (p : Parts). p.base) m.parts in
          let entries : new.entries ≡ old.entries = ap (λ (p : Parts). p.entries) m.parts in
          record {
            code = m.code ∙ o.code;
            limits = limits ∙ o.limits;
            base = base ∙ o.base;
            seats = subst (λ (l : Limits). AreOfSeats l.seats new.entries) (sym limits) (subst (AreOfSeats old.limits.seats) (sym entries) o.seats);
            heard =
                heard-adds after m.code base (Adds.nothing entries)
                (heard-failed (meaning.program old.code) old.base opening.ends.told old.entries before after (fail-count before after device h.argument h.fails)
                (failed-heard before after device h.argument h.fails) (failed-kind before after device h.argument h.fails) o.heard);
            failed =
                subst (λ (x : Option Stop). HaveFailed x opening.ends.told after) (sym m.stop)
                (one-then opening.ends.told before after device (subst (λ (x : Option Stop). HaveFailed x opening.ends.told before) going o.failed)
                (failed-one before after device h.argument h.fails));
          }

    -- Every outcome

    module _ (hand : Option MachineView) (at-hand : (s : MachineView) → hand ≡ Some s → IsOnSeat (parts old) seat s × IsSoundStage s) (before after : List Told) where
      abbrev Done : Outcome → Type 0
      Done outcome = HasRow meaning seat hand old new before after outcome

      quietly : (outcome : Outcome) → is_to_flush outcome ≡ false → is_visit outcome ≡ false → Done outcome → IsOpenedSo meaning.program opening old before → IsOpenedSo meaning.program opening new after
      quietly outcome e f h o =
          subst (λ (ts : List Told). IsOpenedSo meaning.program opening new ts) (sym (h.quiet f))
          (recorded-opened before (outcome-silent seat old new hand before after outcome e f h.event).recorded o)

      recorded : (outcome : Outcome) → is_visit outcome ≡ false → Done outcome → IsRecorded seat old new → IsOpenedSo meaning.program opening old before → IsOpenedSo meaning.program opening new after
      recorded outcome f h r o = subst (λ (ts : List Told). IsOpenedSo meaning.program opening new ts) (sym (h.quiet f)) (recorded-opened before r o)

      pub outcome-opened : (outcome : Outcome) → Done outcome → IsOpenedSo meaning.program opening old before → IsOpenedSo meaning.program opening new after
      outcome-opened Outcome.Began h o = quietly Outcome.Began refl refl h o
      outcome-opened Outcome.Waited h o = quietly Outcome.Waited refl refl h o
      outcome-opened Outcome.Stopped h o = quietly Outcome.Stopped refl refl h o
      outcome-opened Outcome.Read h o = quietly Outcome.Read refl refl h o
      outcome-opened Outcome.Wrote h o = quietly Outcome.Wrote refl refl h o
      outcome-opened (Outcome.Met owner) h o = quietly (Outcome.Met owner) refl refl h o
      outcome-opened Outcome.Allocated h o = quietly Outcome.Allocated refl refl h o
      outcome-opened Outcome.Checked h o = quietly Outcome.Checked refl refl h o
      outcome-opened (Outcome.FoundInvalid bad) h o = quietly (Outcome.FoundInvalid bad) refl refl h o
      outcome-opened (Outcome.Refused bad) h o = quietly (Outcome.Refused bad) refl refl h o
      outcome-opened Outcome.Noted h o = quietly Outcome.Noted refl refl h o
      outcome-opened (Outcome.NotNoted bad) h o = quietly (Outcome.NotNoted bad) refl refl h o
      outcome-opened Outcome.GrewTall h o = quietly Outcome.GrewTall refl refl h o
      outcome-opened (Outcome.NotTall bad) h o = quietly (Outcome.NotTall bad) refl refl h o
      outcome-opened Outcome.Spent h o = quietly Outcome.Spent refl refl h o
      outcome-opened Outcome.Undid h o = quietly Outcome.Undid refl refl h o
      outcome-opened Outcome.WentHome h o = quietly Outcome.WentHome refl refl h o
      outcome-opened Outcome.Lacked h o = quietly Outcome.Lacked refl refl h o
      outcome-opened Outcome.Ended h o = recorded Outcome.Ended refl h (ended-recorded h.event.0 h.event.2 h.event.4) o
      outcome-opened Outcome.Left h o = recorded Outcome.Left refl h (left-recorded h.event.0 h.event.2 h.event.4) o
      outcome-opened Outcome.CameHome h o =
          let e = h.event in
          let its = at-hand e.0 e.1.goes.met in
          home-opened e.0 its.0 its.1 e.1.inside e.2 e.3 before after o e.1.goes.going e.4
      outcome-opened (Outcome.DeviceFailed device) h o =
          let e = h.event in
          let its = at-hand e.0 e.1.goes.met in
          refused-opened e.0 its.0 its.1 e.1.inside e.2 e.3 before after o e.1.goes.going device e.4

  -- Lines to be sent

  -- lines may have come, and no stop was kept
  pub record HasMore (old new : Core C V M) : Type 0 where
    pub was : old.stop ≡ None
    pub going : new.stop ≡ None
    pub more : List ℤ
    pub output : new.output ≡ old.output ++ more

  module _ (seat : ℕ) (hand : Option MachineView) (old new : Core C V M) (before after : List Told) where
    pub outcome-more : (outcome : Outcome) → is_to_flush outcome ≡ true → HasRow meaning seat hand old new before after outcome → HasMore old new
    outcome-more Outcome.Ended e h =
        let x = h.event in
        let m = x.4 in
        let going = x.1.asks.goes.going in
        record { was = going; going = m.stop ∙ going; more = x.0.prints; output = ap (λ (p : Parts). p.output) m.parts }
    outcome-more Outcome.Left e h =
        let x = h.event in
        let m = x.4 in
        let going = x.1.asks.goes.going in
        record { was = going; going = m.stop ∙ going; more = x.0.prints; output = ap (λ (p : Parts). p.output) m.parts }
    outcome-more Outcome.CameHome e h =
        let x = h.event in
        let m = x.4.event in
        let going = x.1.goes.going in
        record { was = going; going = m.stop ∙ going; more = x.4.comes.prints; output = ap (λ (p : Parts). p.output) m.parts }
    outcome-more _ e h = cc
