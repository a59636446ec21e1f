-- A row is noted as the engine stops.
use Rattle.std.proofs.Common.{◌≡◌, ℕ, ◌+◌, ◌<◌, inl, true, false, List, [], ◌∷◌, ◌++◌, get_or, length, Option, Some, None, refl, sym, ap, ◌∙◌, subst, arith, ◌≤◌}
use Rattle.std.specs.Prelude.{IsSome, is_some, slice_set}
use Rattle.std.proofs.lemmas.List.Elements.{All-nil}
use Rattle.ame_term.specs.Tree.{Val}
use Rattle.ame_term.specs.Frame.{Side, side_told}
use Rattle.ame_journal.specs.declared.entry.Entry.{Entry}
use Rattle.ame_journal.specs.declared.entry.EntryKind.{EntryKind}
use Rattle.ame_journal.specs.JournalView.{IsFit}
use Rattle.ame_rows.specs.Valid.{IsValidRead, IsValid}
use Rattle.ame_machine.specs.Run.Local.{LocalState, local}
use Rattle.ame_rows.specs.MemoryView.{Log, row_at}
use Rattle.ame_protocol.specs.Row.SeatRun.{HasUsed, AreValid}
use Rattle.ame_machine.specs.declared.wants.Wants.TheVariants as wants
use Rattle.ame_machine.specs.MachineView.{MachineView, running_side, place_shown, without_footprint, with_answer}
use Rattle.ame_machine.specs.Need.{Need, need_of}
use Rattle.ame_machine.specs.Sound.{IsSoundStage}
use Rattle.ame_machine.proofs.LowLemmas.{too-high}
use Rattle.ame_protocol.specs.declared.types.Attempt.{Attempt}
use Rattle.ame_protocol.specs.declared.types.Task.{Task}
use Rattle.ame_protocol.specs.Engine.Parts.{Parts, heap_in, task_at, term_at, attempt_of, run_in, working}
use Rattle.ame_protocol.specs.Engine.Tasks.{Visits, MeetsTask}
use Rattle.ame_protocol.proofs.Engine.StepLemmas.{seat_within, working-has}
use Rattle.ame_protocol.proofs.Engine.MemoryEvents.{memory-valid, valid-memory}
use Rattle.ame_protocol.proofs.Engine.ShownMemoryLemmas.{row-shown}
use Rattle.ame_protocol.specs.Visits.Stops.{MayBeNoted, told_task, note_entry, has_been_cut, has_grown_tall}
use Rattle.ame_protocol.specs.declared.stop.Stop.{Stop}
use Rattle.ame_engine.specs.Core.{Core}
use Rattle.ame_protocol.specs.Event.Causes.{HasCause}
use Rattle.ame_protocol.specs.Event.Counting.{Counted, one_counted}
use Rattle.ame_protocol.specs.Event.Event.{Event}
use Rattle.ame_protocol.specs.Event.May.{May}
use Rattle.ame_engine.specs.Seen.{parts_of}
use Rattle.ame_engine.specs.Makes.{state_of, MakesAt}
use Rattle.ame_engine.proofs.MakesLemmas.{made-last}
use Rattle.ame_engine.specs.Stops.{stopped_by}
use Rattle.ame_engine.specs.Whole.{IsSound}
use Rattle.ame_engine.specs.AtWork.{is_free, IsOnSeat, IsOn}
use Rattle.ame_protocol.proofs.Event.CauseLemmas.{task-more, going-ordinary, going-untold}
use Rattle.ame_engine.proofs.BlockLemmas.{none-held}
use Rattle.ame_engine.proofs.CheckLemmas.{shown-valid, task-read, valid-shown}
use Rattle.ame_engine.proofs.CommitLemmas.{shown-place}
use Rattle.ame_protocol.specs.Event.Bounds.{LeavesNoTry}
use Rattle.ame_protocol.proofs.Event.BoundLemmas.{busy-leaves_no_try}
use Rattle.ame_machine.specs.Meaning.{Meaning}
use Rattle.ame_engine.proofs.SoundLemmas.{sound-next}

-- The attempt has an entry then.
told-has : (t : Task) (a : Attempt) → working t ≡ Some a → attempt_of (told_task t) ≡ Some (record a { logged = true })
told-has Task.Idle a e = absurd (let clash : ◌≡◌ {A = Option Attempt} None (Some a) = e in cc)
told-has (Task.Running b) a e = let same : b ≡ a = cc in ap (λ (x : Attempt). Some (record x { logged = true })) same
told-has (Task.Free b) a e = let same : b ≡ a = cc in ap (λ (x : Attempt). Some (record x { logged = true })) same
told-has (Task.Undoing b reason) a e = absurd (let clash : ◌≡◌ {A = Option Attempt} None (Some a) = e in cc)

module _ {C V M : Type 0} (meaning : Meaning C V M)
    (core now : Core C V M) (view : core ≡ now) (whole : IsSound meaning core) (seat : ℕ) (m : M)
    (on : IsOn meaning now seat m) where
  abbrev parts : Parts
  parts = parts_of meaning core

  abbrev s : MachineView
  s = meaning.stage core.code m

  pub on' : IsOnSeat parts seat s
  on' = subst (λ (x : Core C V M). IsOnSeat (parts_of meaning x) seat (meaning.stage x.code m)) (sym view) on.stands

  abbrev attempt : Attempt
  attempt = on'.attempt

  abbrev number : ℕ
  number = attempt.tried.number

  abbrev task : Task
  task = task_at core.tasks seat

  pub last-has : attempt_of task ≡ Some attempt
  last-has = working-has task attempt on'.has

  pub last-attempt : (a : Attempt) → working (task_at now.tasks seat) ≡ Some a → attempt ≡ a
  last-attempt a e =
      let both : Some attempt ≡ Some a = sym on'.has ∙ subst (λ (x : Core C V M). working (task_at x.tasks seat) ≡ Some a) (sym view) e in cc

  last-within : seat < length core.tasks
  last-within = seat_within core.tasks seat attempt last-has

  -- the task in its place
  pub last-task : (t : Task) → t ≡ get_or core.tasks seat t → task ≡ t
  last-task t e = task-read core.tasks seat t last-within e

  pub last-some : (t : Task) → t ≡ get_or core.tasks seat t → IsSome (attempt_of t)
  last-some t e = ap (λ (o : Option Attempt). is_some o) (sym (ap attempt_of (last-task t e)) ∙ last-has)

  pub last-its : (t : Task) → t ≡ get_or core.tasks seat t → (its : Attempt) → attempt_of t ≡ Some its → its ≡ attempt
  last-its t e its is = let both : Some its ≡ Some attempt = sym is ∙ sym (ap attempt_of (last-task t e)) ∙ last-has in cc

  -- it has made no fewer steps than at its last valid check
  last-low : (a : Attempt) → attempt_of task ≡ Some a → a.tried.steps ≤ s.steps
  last-low a e =
      let same : attempt ≡ a = (let both : Some attempt ≡ Some a = sym last-has ∙ e in cc) in
      let since : s.steps ≡ s.since + a.tried.steps = subst (λ (x : Attempt). s.steps ≡ s.since + x.tried.steps) same on'.since in omega arith

  -- The place of its run
  place : (p : LocalState)
      × (local (running_side s) (term_at parts.pool number) (row_at parts.memory.rows seat).inputs s.steps ≡ Some p)
      × (without_footprint p ≡ with_answer None (place_shown s))
  place = shown-place (local (running_side s) (term_at parts.pool number) (row_at parts.memory.rows seat).inputs s.steps) s on'.run

  -- a seat whose reads aren't valid runs protected code
  pub invalid-runs : (IsValid core.memory.cells seat (row_at core.memory.rows seat).reads → ⊥) → task ≡ Task.Running attempt
  invalid-runs invalid = by task refl on'.has
    where
      by : (t : Task) → task ≡ t → working t ≡ Some attempt → task ≡ Task.Running attempt
      by Task.Idle e h = absurd (let clash : ◌≡◌ {A = Option Attempt} None (Some attempt) = h in cc)
      by (Task.Running a) e h = let same : a ≡ attempt = cc in e ∙ ap Task.Running same
      by (Task.Free a) e h = absurd (invalid (subst (IsValid core.memory.cells seat) (sym none) (All-nil (IsValidRead core.memory.cells seat))))
        where
          none : (row_at core.memory.rows seat).reads ≡ []
          none =
              let visits : Visits parts whole.state.stands.types seat a = subst (MeetsTask parts whole.state.stands.types seat) e (whole.state.stands.seats seat) in
              sym (ap (λ (n : Log Val). n.reads) (row-shown (meaning.value_of core.code) core.memory.rows seat)) ∙ ap (λ (n : Log Val). n.reads) visits.clear
      by (Task.Undoing a reason) e h = absurd (let clash : ◌≡◌ {A = Option Attempt} None (Some attempt) = h in cc)

  pub turned-runs : (IsValid core.memory.cells seat (row_at core.memory.rows seat).reads → ⊥) → (t : Task) → t ≡ get_or core.tasks seat t
      → (its : Attempt) → attempt_of t ≡ Some its → task ≡ Task.Running its
  turned-runs invalid t e its is = invalid-runs invalid ∙ ap Task.Running (sym (last-its t e its is))

  module _ (valid-now : IsValid now.memory.cells seat (row_at now.memory.rows seat).reads) (going : now.stop ≡ None) where
    valid : IsValid core.memory.cells seat (row_at core.memory.rows seat).reads
    valid = subst (λ (x : Core C V M). IsValid x.memory.cells seat (row_at x.memory.rows seat).reads) (sym view) valid-now

    going' : core.stop ≡ None
    going' = subst (λ (x : Core C V M). x.stop ≡ None) (sym view) going

    reads-valid : AreValid (heap_in parts) seat (run_in parts seat number).reads
    reads-valid =
        memory-valid parts.memory seat (row_at parts.memory.rows seat).reads
        (subst (IsValid parts.memory.cells seat) (sym (ap (λ (n : Log Val). n.reads) (row-shown (meaning.value_of core.code) core.memory.rows seat)))
        (valid-shown (meaning.value_of core.code) core.memory.cells seat (row_at core.memory.rows seat).reads valid))

    may : MayBeNoted parts seat task (running_side s) number s.steps place.0
    may = by task refl on'.has
      where
        by : (t : Task) → task ≡ t → working t ≡ Some attempt → MayBeNoted parts seat t (running_side s) number s.steps place.0
        by Task.Idle e h = absurd (let clash : ◌≡◌ {A = Option Attempt} None (Some attempt) = h in cc)
        by (Task.Running a) e h =
            let same : a ≡ attempt = cc in
            let side : running_side s ≡ Side.Protected = ap side_told (on'.side ∙ ap is_free e) in
            let used : HasUsed (run_in parts seat number) s.steps place.0 = record {
              ran = subst (λ (x : Side). local x (term_at parts.pool number) (row_at parts.memory.rows seat).inputs s.steps ≡ Some place.0) side place.1;
              used = ap (λ (x : LocalState). x.inputs) place.2;
            } in
            subst (λ (x : Side). MayBeNoted parts seat (Task.Running a) x number s.steps place.0) (sym side)
            (subst (λ (x : Attempt). MayBeNoted parts seat (Task.Running x) Side.Protected number s.steps place.0) (sym same)
            (MayBeNoted.running attempt s.steps place.0 used reads-valid))
        by (Task.Free a) e h =
            let same : a ≡ attempt = cc in
            let side : running_side s ≡ Side.Unprotected = ap side_told (on'.side ∙ ap is_free e) in
            let visits : Visits parts whole.state.stands.types seat a = subst (MeetsTask parts whole.state.stands.types seat) e (whole.state.stands.seats seat) in
            let none : (row_at parts.memory.rows seat).inputs ≡ [] = ap (λ (n : Log Val). n.inputs) visits.clear in
            subst (λ (x : Side). MayBeNoted parts seat (Task.Free a) x number s.steps place.0) (sym side)
            (subst (λ (x : Attempt). MayBeNoted parts seat (Task.Free x) Side.Unprotected number s.steps place.0) (sym same)
            (MayBeNoted.free attempt s.steps place.0
            (subst (λ (inputs : List Val). local Side.Unprotected (term_at parts.pool number) inputs s.steps ≡ Some place.0) none
            (subst (λ (x : Side). local x (term_at parts.pool number) (row_at parts.memory.rows seat).inputs s.steps ≡ Some place.0) side place.1))))
        by (Task.Undoing a reason) e h = absurd (let clash : ◌≡◌ {A = Option Attempt} None (Some attempt) = h in cc)

    last-few : seat < 32
    last-few =
        let within : seat < length core.tasks = seat_within core.tasks seat attempt last-has in
        let tasks : length core.tasks ≡ core.limits.seats = whole.state.stands.bounded.tasks in
        let few = whole.limits.seats in omega (arith, within, tasks, few)

    pub last-fit : (kind : EntryKind) (entry : Entry)
        → entry ≡ record { kind = kind; seat = seat; number = number; steps = s.steps; fresh = s.fresh; answer = None } → IsFit entry
    last-fit kind entry e = subst IsFit (sym e) (record { seat = last-few; answer = none-held kind })

    -- all that the engine has then
    module _ (kind : EntryKind) (entry : Entry) (entry_is : entry ≡ note_entry kind seat number s.steps (place_shown s))
        (before entries : List Entry) (before_is : before ≡ core.entries) (pushes : entries ≡ before ++ entry ∷ [])
        (later : Task) (later_is : later ≡ told_task task) where
      entries-are : entries ≡ core.entries ++ note_entry kind seat number s.steps (place_shown s) ∷ []
      entries-are = pushes ∙ ap (λ (es : List Entry). es ++ entry ∷ []) before_is ∙ ap (λ (e : Entry). core.entries ++ e ∷ []) entry_is

      pub last-places : attempt_of later ≡ Some (record attempt { logged = true })
      last-places = ap attempt_of later_is ∙ told-has task attempt on'.has

    -- the turns are used up
    module _ (used_up : now.turns ≡ now.limits.turns)
        (t : Task) (t_is : t ≡ get_or core.tasks seat t) (its : Attempt) (its_is : attempt_of t ≡ Some its)
        (entry : Entry) (entry_is' : entry ≡ note_entry EntryKind.Cut seat its.tried.number s.steps (place_shown s)) where
      cut-attempt : its ≡ attempt
      cut-attempt = last-its t t_is its its_is

      cut-entry : entry ≡ note_entry EntryKind.Cut seat number s.steps (place_shown s)
      cut-entry = entry_is' ∙ ap (λ (a : Attempt). note_entry EntryKind.Cut seat a.tried.number s.steps (place_shown s)) cut-attempt

      pub cut-fit : IsFit entry
      cut-fit = last-fit EntryKind.Cut entry cut-entry

      module _ (before entries : List Entry) (before_is : before ≡ core.entries) (pushes : entries ≡ before ++ entry ∷ [])
          (later : Task) (later_is' : later ≡ told_task t) where
        cut-later : later ≡ told_task task
        cut-later = later_is' ∙ sym (ap told_task (last-task t t_is))

        cut-entries : entries ≡ core.entries ++ note_entry EntryKind.Cut seat number s.steps (place_shown s) ∷ []
        cut-entries = entries-are EntryKind.Cut entry cut-entry before entries before_is pushes later cut-later

        abbrev after-cut : Core C V M
        after-cut = record core { entries = entries; tasks = slice_set core.tasks seat later; stop = Some (Stop.Spent) }

        cut-with : List Entry → Task → Parts
        cut-with es t = record parts { entries = es; tasks = slice_set core.tasks seat t; turns = core.turns; stopped = true }

        cut-parts : parts_of meaning after-cut ≡ has_been_cut seat number s.steps (place_shown s) task parts
        unfolding cut-with
        cut-parts = λ i. cut-with (cut-entries i) (cut-later i)

        used-up' : core.turns ≡ core.limits.turns
        used-up' = subst (λ (x : Core C V M). x.turns ≡ x.limits.turns) (sym view) used_up

        -- so this may be
        may-cut : May (Event.Cut seat attempt s.steps place.0) (state_of meaning core)
        may-cut = (going', used-up', (running_side s, record { works = on'.has; may = may; more = last-low attempt last-has }))

        pub makes-cut : (a : Attempt) → working (task_at now.tasks seat) ≡ Some a
            → MakesAt meaning (meaning.stage now.code m) None (λ q. Event.Cut seat a (meaning.stage now.code m).steps q) now after-cut
        makes-cut a e =
            subst (λ (b : Attempt). MakesAt meaning (meaning.stage now.code m) None (λ q. Event.Cut seat b (meaning.stage now.code m).steps q) now after-cut) (last-attempt a e)
            (subst (λ (x : Core C V M). MakesAt meaning (meaning.stage x.code m) None (λ q. Event.Cut seat attempt (meaning.stage x.code m).steps q) x after-cut) view
            (record {
              place = place.0;
              shows = place.2;
              makes = made-last meaning Stop.Spent (λ c. c) (has_been_cut seat number s.steps place.0 task) (Event.Cut seat attempt s.steps place.0) core after-cut refl refl may-cut
                  (record {
                    code = refl;
                    parts = subst (λ (q : LocalState). parts_of meaning after-cut ≡ has_been_cut seat number s.steps q task parts) (sym place.2) cut-parts;
                    counted = refl;
                    stop = refl;
                  });
            }))

        pub whole-cut : IsSound meaning after-cut
        whole-cut =
            let at = makes-cut attempt (subst (λ (x : Core C V M). working (task_at x.tasks seat) ≡ Some attempt) view on'.has) in
            sound-next meaning core now after-cut view whole (Event.Cut seat attempt (meaning.stage now.code m).steps at.place) at.makes
            whole.memory whole.members whole.text

        pub cut-told : attempt_of later ≡ Some (record attempt { logged = true })
        cut-told = last-places EntryKind.Cut entry cut-entry before entries before_is pushes later cut-later

    -- its next value would be too high
    module _ (left : now.turns < now.limits.turns) (sound : IsSoundStage (meaning.stage now.code m)) (grows : (meaning.stage now.code m).want ≡ Some wants.Tall)
        (t : Task) (t_is : t ≡ get_or core.tasks seat t) (its : Attempt) (its_is : attempt_of t ≡ Some its)
        (entry : Entry) (entry_is' : entry ≡ note_entry EntryKind.Tall seat its.tried.number s.steps (place_shown s)) where
      tall-attempt : its ≡ attempt
      tall-attempt = last-its t t_is its its_is

      tall-entry : entry ≡ note_entry EntryKind.Tall seat number s.steps (place_shown s)
      tall-entry = entry_is' ∙ ap (λ (a : Attempt). note_entry EntryKind.Tall seat a.tried.number s.steps (place_shown s)) tall-attempt

      pub tall-fit : IsFit entry
      tall-fit = last-fit EntryKind.Tall entry tall-entry

      module _ (before entries : List Entry) (before_is : before ≡ core.entries) (pushes : entries ≡ before ++ entry ∷ [])
          (later : Task) (later_is' : later ≡ told_task t) where
        tall-later : later ≡ told_task task
        tall-later = later_is' ∙ sym (ap told_task (last-task t t_is))

        tall-entries : entries ≡ core.entries ++ note_entry EntryKind.Tall seat number s.steps (place_shown s) ∷ []
        tall-entries = entries-are EntryKind.Tall entry tall-entry before entries before_is pushes later tall-later

        abbrev after-tall : Core C V M
        after-tall = record core { entries = entries; tasks = slice_set core.tasks seat later; turns = core.turns + 1; counters = one_counted Counted.Tall core.counters; stop = Some (Stop.Tall its.tried.number) }

        tall-with : List Entry → Task → Parts
        tall-with es t = record parts { entries = es; tasks = slice_set core.tasks seat t; turns = core.turns + 1; stopped = true }

        tall-parts : parts_of meaning after-tall ≡ has_grown_tall seat number s.steps (place_shown s) task parts
        unfolding tall-with
        tall-parts = λ i. tall-with (tall-entries i) (tall-later i)

        left' : core.turns < core.limits.turns
        left' = subst (λ (x : Core C V M). x.turns < x.limits.turns) (sym view) left

        high : Need.Tall ≡ need_of s
        high =
            subst (λ (x : Core C V M). Need.Tall ≡ need_of (meaning.stage x.code m)) (sym view) (sound.told wants.Tall grows)

        low : IsSoundStage s
        low = subst (λ (x : Core C V M). IsSoundStage (meaning.stage x.code m)) (sym view) sound

        -- so this may be
        may-tall : May (Event.Tall seat attempt s.steps place.0) (state_of meaning core)
        may-tall = (
          record { going = going'; left = left' },
          (
            running_side s,
            record { works = on'.has; may = may; more = last-low attempt last-has },
            too-high s place.0 low.low (sym high) (ap (λ (x : LocalState). x.term) place.2),
          ),
        )

        pub makes-tall : (a : Attempt) → working (task_at now.tasks seat) ≡ Some a
            → MakesAt meaning (meaning.stage now.code m) None (λ q. Event.Tall seat a (meaning.stage now.code m).steps q) now after-tall
        makes-tall a e =
            subst (λ (b : Attempt). MakesAt meaning (meaning.stage now.code m) None (λ q. Event.Tall seat b (meaning.stage now.code m).steps q) now after-tall) (last-attempt a e)
            (subst (λ (x : Core C V M). MakesAt meaning (meaning.stage x.code m) None (λ q. Event.Tall seat attempt (meaning.stage x.code m).steps q) x after-tall) view
            (record {
              place = place.0;
              shows = place.2;
              makes = made-last meaning (Stop.Tall number) (one_counted Counted.Tall) (has_grown_tall seat number s.steps place.0 task) (Event.Tall seat attempt s.steps place.0)
                  core after-tall refl refl may-tall
                  (record {
                    code = refl;
                    parts = subst (λ (q : LocalState). parts_of meaning after-tall ≡ has_grown_tall seat number s.steps q task parts) (sym place.2) tall-parts;
                    counted = refl;
                    stop = ap (λ (a : Attempt). Some (Stop.Tall a.tried.number)) tall-attempt;
                  });
            }))

        pub whole-tall : IsSound meaning after-tall
        whole-tall =
            let at = makes-tall attempt (subst (λ (x : Core C V M). working (task_at x.tasks seat) ≡ Some attempt) view on'.has) in
            sound-next meaning core now after-tall view whole (Event.Tall seat attempt (meaning.stage now.code m).steps at.place) at.makes
            whole.memory whole.members whole.text

        pub tall-told : attempt_of later ≡ Some (record attempt { logged = true })
        tall-told = last-places EntryKind.Tall entry tall-entry before entries before_is pushes later tall-later

-- If a seat has a member at work and the turns are used up, that is a cause to stop.

module _ {C V M : Type 0} (meaning : Meaning C V M)
    (core now : Core C V M) (view : core ≡ now) (whole : IsSound meaning core) (seat : ℕ)
    (has : IsSome (attempt_of (task_at now.tasks seat))) (used_up : now.turns ≡ now.limits.turns) where
  abbrev spent : Core C V M → Type 0
  spent x = HasCause (Some Stop.Spent) x.certificates (parts_of meaning (stopped_by Stop.Spent x))

  there : (o : Option Attempt) → IsSome o → (a : Attempt) × (o ≡ Some a)
  there None h = absurd (let clash : false ≡ true = h in cc)
  there (Some a) h = (a, refl)

  pub spent-kept : now.stop ≡ None → spent now
  spent-kept none = subst (λ (x : Core C V M). spent x) view (record {
    cause = record {
      turns = subst (λ (x : Core C V M). x.turns ≡ x.limits.turns) (sym view) used_up;
      left = (task-more (parts_of meaning core) whole.state.stands seat its.0 its.1).empty;
    };
    told = going-untold (parts_of meaning core) (parts_of meaning core) core.stop none' core.certificates whole.state.caused;
    ends = inl (going-ordinary (parts_of meaning core) (parts_of meaning core) core.stop none' core.certificates whole.state.caused);
  })
    where
      none' : core.stop ≡ None
      none' = subst (λ (x : Core C V M). x.stop ≡ None) (sym view) none

      its : (a : Attempt) × (attempt_of (task_at core.tasks seat) ≡ Some a)
      its = there (attempt_of (task_at core.tasks seat)) (subst (λ (x : Core C V M). IsSome (attempt_of (task_at x.tasks seat))) (sym view) has)

  -- With one seat no attempt is left without an entry, if the seat runs no code whose reads are valid.
  pub spent-leaves : (IsValid now.memory.cells seat (row_at now.memory.rows seat).reads → working (task_at now.tasks seat) ≡ None) → now.stop ≡ None
      → LeavesNoTry Stop.Spent (parts_of meaning now)
  spent-leaves stuck none =
      subst (λ (x : Core C V M). (IsValid x.memory.cells seat (row_at x.memory.rows seat).reads → working (task_at x.tasks seat) ≡ None) → x.stop ≡ None
      → IsSome (attempt_of (task_at x.tasks seat)) → LeavesNoTry Stop.Spent (parts_of meaning x)) view from stuck none has
    where
      from : (IsValid core.memory.cells seat (row_at core.memory.rows seat).reads → working (task_at core.tasks seat) ≡ None) → core.stop ≡ None
          → IsSome (attempt_of (task_at core.tasks seat)) → LeavesNoTry Stop.Spent (parts_of meaning core)
      from stuck none has =
          let its = there (attempt_of (task_at core.tasks seat)) has in
          busy-leaves_no_try (parts_of meaning core) whole.state.stands core.stop none core.counters whole.state.bounds whole.state.lone seat its.0 its.1
          (λ valid. stuck (shown-valid (meaning.value_of core.code) core.memory.cells seat (row_at core.memory.rows seat).reads
          (subst (IsValid (parts_of meaning core).memory.cells seat) (ap (λ (n : Log Val). n.reads) (row-shown (meaning.value_of core.code) core.memory.rows seat))
          (valid-memory (parts_of meaning core).memory seat (row_at (parts_of meaning core).memory.rows seat).reads valid))))
