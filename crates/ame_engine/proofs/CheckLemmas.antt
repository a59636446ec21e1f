-- The reads of a seat are checked.
use Rattle.std.proofs.Common.{◌≡◌, ℕ, zero, suc, ◌+◌, ◌<◌, false, List, [], ◌∷◌, ◌++◌, map, get_or, length, Option, Some, None, option_map, IsSomeAnd, refl, sym, ap, ◌∙◌, subst, arith}
use Rattle.std.specs.Prelude.{slice_get, slice_set, unwrap_or}
use Rattle.std.proofs.lemmas.Option.{slice_get-map}
use Rattle.std.proofs.lemmas.List.Elements.{All-weaker}
use Rattle.ame_term.specs.Tree.{Val}
use Rattle.ame_term.specs.Frame.{Side, side_told}
use Rattle.ame_store.specs.declared.cell.Cell.{Cell}
use Rattle.ame_rows.specs.declared.notes.ReadNote.{ReadNote}
use Rattle.ame_rows.specs.Valid.{IsValidAt, IsValidRead, IsValid}
use Rattle.ame_journal.specs.declared.entry.Entry.{Entry}
use Rattle.ame_machine.specs.Run.Local.{LocalState, local}
use Rattle.ame_rows.specs.MemoryView.{Log, row_at}
use Rattle.ame_protocol.specs.Row.Shown.{shown_cell}
use Rattle.ame_protocol.specs.Row.SeatRun.{HasUsed, AreValid}
use Rattle.ame_machine.specs.MachineView.{MachineView, running_side}
use Rattle.ame_protocol.specs.declared.types.Attempt.{Attempt}
use Rattle.ame_protocol.specs.declared.types.Task.{Task}
use Rattle.ame_protocol.specs.Engine.Parts.{Parts, heap_in, task_at, term_at, run_in, working}
use Rattle.ame_protocol.specs.Engine.Events.{has_checked}
use Rattle.ame_protocol.proofs.Engine.ShownMemoryLemmas.{row-shown}
use Rattle.ame_protocol.proofs.Engine.MemoryEvents.{memory-valid}
use Rattle.ame_protocol.specs.declared.stop.Stop.{Stop}
use Rattle.ame_engine.specs.Core.{Core}
use Rattle.ame_engine.specs.Stops.{stopped_by}
use Rattle.ame_protocol.specs.Event.Causes.{HasCause, only_seats_keep}
use Rattle.ame_protocol.specs.Event.Counting.{Counted, one_counted}
use Rattle.ame_protocol.specs.Event.Event.{Event}
use Rattle.ame_protocol.specs.Event.May.{May}
use Rattle.ame_engine.specs.Seen.{parts_of}
use Rattle.ame_engine.specs.Makes.{state_of, Makes}
use Rattle.ame_engine.specs.Whole.{IsSound}
use Rattle.ame_engine.specs.AtWork.{IsOnSeat, IsOn}
use Rattle.ame_engine.proofs.MakesLemmas.{made-event}
use Rattle.ame_engine.proofs.ReadLemmas.{place-by, runs-as}
use Rattle.ame_protocol.specs.Event.Bounds.{LeavesNoTry}
use Rattle.ame_machine.specs.Meaning.{Meaning}
use Rattle.ame_engine.proofs.SoundLemmas.{sound-next}
use Rattle.ame_engine.proofs.HaltLemmas.{makes-halted}

-- Valid reads are so at the shown cells.

module _ {V : Type 0} (view : V → Val) (cells : List (Cell V)) (seat : ℕ) where
  valid-by : (n : ℕ) (o : Option (Cell V)) → IsSomeAnd o (IsValidAt seat n) → IsSomeAnd (option_map (shown_cell view) o) (IsValidAt seat n)
  valid-by n None h = h
  valid-by n (Some cell) h = record { unowned = h.unowned; live = h.live; same = h.same }

  valid-one : (note : ReadNote) → IsValidRead cells seat note → IsValidRead (map (shown_cell view) cells) seat note
  valid-one note h =
      subst (λ (o : Option (Cell Val)). IsSomeAnd o (IsValidAt seat note.number)) (sym (slice_get-map (shown_cell view) cells note.loc.0))
      (valid-by note.number (slice_get cells note.loc.0) h)

  by-valid : (n : ℕ) (o : Option (Cell V)) → IsSomeAnd (option_map (shown_cell view) o) (IsValidAt seat n) → IsSomeAnd o (IsValidAt seat n)
  by-valid n None h = h
  by-valid n (Some cell) h = record { unowned = h.unowned; live = h.live; same = h.same }

  one-valid : (note : ReadNote) → IsValidRead (map (shown_cell view) cells) seat note → IsValidRead cells seat note
  one-valid note h =
      by-valid note.number (slice_get cells note.loc.0)
      (subst (λ (o : Option (Cell Val)). IsSomeAnd o (IsValidAt seat note.number)) (slice_get-map (shown_cell view) cells note.loc.0) h)

  pub shown-valid : (reads : List ReadNote) → IsValid (map (shown_cell view) cells) seat reads → IsValid cells seat reads
  shown-valid reads h = All-weaker (IsValidRead (map (shown_cell view) cells) seat) (IsValidRead cells seat) one-valid reads h

  pub valid-shown : (reads : List ReadNote) → IsValid cells seat reads → IsValid (map (shown_cell view) cells) seat reads
  valid-shown reads h = All-weaker (IsValidRead cells seat) (IsValidRead (map (shown_cell view) cells) seat) valid-one reads h

pub working-within : (tasks : List Task) (seat : ℕ) (a : Attempt) → working (task_at tasks seat) ≡ Some a → seat < length tasks
working-within [] seat a e = cc
working-within (t ∷ tasks) zero a e = omega arith
working-within (t ∷ tasks) (suc seat) a e = let rest = working-within tasks seat a e in omega arith

pub task-read : (tasks : List Task) (seat : ℕ) (t : Task) → seat < length tasks → t ≡ get_or tasks seat t → task_at tasks seat ≡ t
task-read [] seat t within e = absurd (omega (arith, within))
task-read (x ∷ tasks) zero t within e = sym e
task-read (x ∷ tasks) (suc seat) t within e = task-read tasks seat t (omega (arith, within)) e

-- the task of a seat that has an attempt at work, by what is in its place
pub its-task : {C V M : Type 0} (core now : Core C V M) → core ≡ now → (seat : ℕ) (held : Attempt) → working (task_at now.tasks seat) ≡ Some held
    → (t : Task) (a : Attempt) → t ≡ get_or core.tasks seat t → t ≡ Task.Running a → task_at core.tasks seat ≡ Task.Running a
its-task {C} {V} {M} core now view seat held has t a e f =
    task-read core.tasks seat t
    (working-within core.tasks seat held (subst (λ (x : Core C V M). working (task_at x.tasks seat) ≡ Some held) (sym view) has)) e ∙ f

-- The run has used all inputs.
has-used : (parts : Parts) (seat : ℕ) (s : MachineView) (on : IsOnSeat parts seat s) → s.inside ≡ false
    → (p : LocalState) × HasUsed (run_in parts seat on.attempt.tried.number) s.steps p
has-used parts seat s on outside =
    let start = term_at parts.pool on.attempt.tried.number in
    let inputs = (row_at parts.memory.rows seat).inputs in
    let place = place-by (local (running_side s) start inputs s.steps) s on.run in
    (place.0, record { ran = subst (λ (x : Side). local x start inputs s.steps ≡ Some place.0) (ap side_told outside) place.1; used = place.3 })

module _ {C V M : Type 0} (meaning : Meaning C V M) where
  -- The first stop is kept, and it has its cause.
  pub whole-kept : (core now : Core C V M) → core ≡ now → (why : Stop) → IsSound meaning core → core.stop ≡ None → only_seats_keep why ≡ false
      → (now.stop ≡ None → HasCause (Some why) now.certificates (parts_of meaning (stopped_by why now)))
      → (now.stop ≡ None → LeavesNoTry why (parts_of meaning now))
      → IsSound meaning (record core { stop = Some why })
  whole-kept core now view why whole none apart cause leaves =
      let going : now.stop ≡ None = subst (λ (x : Core C V M). x.stop ≡ None) view none in
      let is : ◌≡◌ {A = Core C V M} (record core { stop = Some why }) (stopped_by why now) =
      ap (λ (o : Option Stop). record core { stop = Some (unwrap_or o why) }) (sym none) ∙ ap (stopped_by why) view in
      sound-next meaning core now (record core { stop = Some why }) view whole (Event.Halt why)
      (makes-halted meaning now (record core { stop = Some why }) going why is apart (cause going) (leaves going)) whole.memory whole.members whole.text

  module _ (core now : Core C V M) (view : core ≡ now) (whole : IsSound meaning core) (seat : ℕ) (m : M)
      (on : IsOn meaning now seat m) (outside : (meaning.stage now.code m).inside ≡ false)
      (left : now.turns < now.limits.turns) (attempt : Attempt) (is : task_at core.tasks seat ≡ Task.Running attempt) where
    abbrev parts : Parts
    parts = parts_of meaning core

    left' : core.turns < core.limits.turns
    left' = subst (λ (x : Core C V M). x.turns < x.limits.turns) (sym view) left

    its-attempt : (a : Attempt) → task_at now.tasks seat ≡ Task.Running a → attempt ≡ a
    its-attempt a e =
        ap (λ (t : Task). unwrap_or (working t) attempt) (sym is ∙ subst (λ (x : Core C V M). task_at x.tasks seat ≡ Task.Running a) (sym view) e)

    module _ (full : (meaning.stage now.code m).since ≡ now.limits.slice) (steps : ℕ) (steps_are : steps ≡ (meaning.stage now.code m).steps)
        (valid : IsValid core.memory.cells seat (row_at core.memory.rows seat).reads) (later : Attempt) (base entries : List Entry)
        (later_is : later ≡ record attempt { tried = record attempt.tried { at = length (base ++ entries); steps = steps } })
        (base_is : base ≡ core.base) (entries_are : entries ≡ core.entries) where
      abbrev s : MachineView
      s = meaning.stage core.code m

      on' : IsOnSeat parts seat s
      on' = subst (λ (x : Core C V M). IsOnSeat (parts_of meaning x) seat (meaning.stage x.code m)) (sym view) on.stands

      outside' : s.inside ≡ false
      outside' = subst (λ (x : Core C V M). (meaning.stage x.code m).inside ≡ false) (sym view) outside

      full' : s.since ≡ core.limits.slice
      full' = subst (λ (x : Core C V M). (meaning.stage x.code m).since ≡ x.limits.slice) (sym view) full

      steps-are : steps ≡ s.steps
      steps-are = subst (λ (x : Core C V M). steps ≡ (meaning.stage x.code m).steps) (sym view) steps_are

      one-attempt : on'.attempt ≡ attempt
      one-attempt = ap (λ (t : Task). unwrap_or (working t) attempt) (sym (runs-as parts seat s on' outside') ∙ is)

      used : (p : LocalState) × HasUsed (run_in parts seat attempt.tried.number) s.steps p
      used = subst (λ (a : Attempt). (p : LocalState) × HasUsed (run_in parts seat a.tried.number) s.steps p) one-attempt (has-used parts seat s on' outside')

      since : s.steps ≡ s.since + attempt.tried.steps
      since = subst (λ (a : Attempt). s.steps ≡ s.since + a.tried.steps) one-attempt on'.since

      are-valid : AreValid (heap_in parts) seat (run_in parts seat attempt.tried.number).reads
      are-valid =
          memory-valid parts.memory seat (row_at parts.memory.rows seat).reads
          (subst (IsValid parts.memory.cells seat) (sym (ap (λ (n : Log Val). n.reads) (row-shown (meaning.value_of core.code) core.memory.rows seat)))
          (valid-shown (meaning.value_of core.code) core.memory.cells seat (row_at core.memory.rows seat).reads valid))

      later-with : List Entry → ℕ → Attempt
      later-with all n = record attempt { tried = record attempt.tried { at = length all; steps = n } }

      later-so : later ≡ later-with (core.base ++ core.entries) s.steps
      unfolding later-with
      later-so =
          later_is ∙ ap (λ (xs : List Entry). later-with (xs ++ entries) steps) base_is
          ∙ ap (λ (xs : List Entry). later-with (core.base ++ xs) steps) entries_are ∙ ap (later-with (core.base ++ core.entries)) steps-are

      with-later : Attempt → Core C V M
      with-later a =
          record core { tasks = slice_set core.tasks seat (Task.Running a); turns = core.turns + 1; counters = one_counted Counted.Check core.counters }

      abbrev after-valid : Core C V M
      after-valid =
          record core { tasks = slice_set core.tasks seat (Task.Running later); turns = core.turns + 1; counters = one_counted Counted.Check core.counters }

      parts-valid : parts_of meaning after-valid ≡ has_checked seat s.steps attempt parts
      unfolding with-later later-with
      parts-valid = ap (λ (a : Attempt). parts_of meaning (with-later a)) later-so

      -- so this may be
      may-check : now.stop ≡ None → May (Event.Check seat attempt s.steps) (state_of meaning core)
      may-check going = (
        record { going = subst (λ (x : Core C V M). x.stop ≡ None) (sym view) going; left = left' },
        (used.0, record { task = is; used = used.1; more = let b = since in omega arith }),
        are-valid,
        (let b = since in let d = full' in omega arith),
      )

      makes-it : now.stop ≡ None → Makes meaning (Event.Check seat attempt s.steps) now after-valid
      makes-it going =
          subst (λ (x : Core C V M). Makes meaning (Event.Check seat attempt s.steps) x after-valid) view
          (made-event meaning (one_counted Counted.Check) (has_checked seat s.steps attempt) (Event.Check seat attempt s.steps) core after-valid refl refl
          (may-check going) (record { code = refl; parts = parts-valid; counted = refl; stop = refl }))

      pub makes-valid : now.stop ≡ None → (a : Attempt) → task_at now.tasks seat ≡ Task.Running a
          → Makes meaning (Event.Check seat a (meaning.stage now.code m).steps) now after-valid
      makes-valid going a e =
          subst (λ (x : Attempt). Makes meaning (Event.Check seat x (meaning.stage now.code m).steps) now after-valid) (its-attempt a e)
          (subst (λ (x : Core C V M). Makes meaning (Event.Check seat attempt (meaning.stage x.code m).steps) now after-valid) view (makes-it going))

      pub whole-valid : now.stop ≡ None → IsSound meaning after-valid
      whole-valid going =
          sound-next meaning core now after-valid view whole (Event.Check seat attempt s.steps) (makes-it going) whole.memory whole.members whole.text
