-- The notes of rows that are at work when an engine stops.
use Rattle.std.specs.Prelude.{ℕ, true, [], ◌∷◌, ◌++◌, None}
use Rattle.ame_term.specs.Frame.{Side}
use Rattle.ame_journal.specs.declared.entry.Entry.{Entry}
use Rattle.ame_journal.specs.declared.entry.EntryKind.{EntryKind}
use Rattle.ame_machine.specs.Run.Local.{LocalState}
use Rattle.ame_protocol.specs.Row.SeatRun.{HasUsed, AreValid}
use Rattle.ame_protocol.specs.declared.types.Attempt.{Attempt}
use Rattle.ame_protocol.specs.declared.types.Task.{Task}
use Rattle.ame_protocol.specs.Engine.Parts.{Parts, heap_in, run_in}
use Rattle.ame_protocol.specs.Engine.Events.{one_turn, with_task, has_stopped}
use Rattle.ame_protocol.specs.Visits.Visit.{StepsTo}

-- The row of a seat at work may be noted at this place, by its task, on the side on which it runs, for its member. Protected code has used
-- all that it was given, and its reads are valid. Unprotected code has made only steps.
pub data MayBeNoted (parts : Parts) (seat : ℕ) : Task → Side → ℕ → ℕ → LocalState → Type 0 where
  running : (attempt : Attempt) (n : ℕ) (p : LocalState) → HasUsed (run_in parts seat attempt.tried.number) n p
      → AreValid (heap_in parts) seat (run_in parts seat attempt.tried.number).reads
      → MayBeNoted parts seat (Task.Running attempt) Side.Protected attempt.tried.number n p
  free : (attempt : Attempt) (n : ℕ) (p : LocalState) → StepsTo parts attempt.tried.number n p
      → MayBeNoted parts seat (Task.Free attempt) Side.Unprotected attempt.tried.number n p

-- the attempt once an entry was added for it
abbrev pub told_attempt : Attempt → Attempt
told_attempt attempt = record attempt { logged = true }

-- the same of what a seat is at
abbrev pub told_task : Task → Task
told_task Task.Idle = Task.Idle
told_task (Task.Running attempt) = Task.Running (told_attempt attempt)
told_task (Task.Free attempt) = Task.Free (told_attempt attempt)
told_task (Task.Undoing attempt reason) = Task.Undoing (told_attempt attempt) reason

-- a note of a kind, for a row that has come to a place
abbrev pub note_entry : EntryKind → ℕ → ℕ → ℕ → LocalState → Entry
note_entry kind seat number steps p =
    record { kind = kind; seat = seat; number = number; steps = steps; fresh = p.fresh; answer = None }

-- it joins the journal, and the seat goes on with its task, for which an entry was added then
abbrev pub with_note : EntryKind → ℕ → ℕ → ℕ → LocalState → Task → Parts → Parts
with_note kind seat number steps p task parts =
    with_task seat (told_task task) (record parts { entries = parts.entries ++ note_entry kind seat number steps p ∷ [] })

-- the turns are used up, and the row is cut off there
abbrev pub has_been_cut : ℕ → ℕ → ℕ → LocalState → Task → Parts → Parts
has_been_cut seat number steps p task parts = has_stopped (with_note EntryKind.Cut seat number steps p task parts)

-- the next value of the row would be nested too deeply
abbrev pub has_grown_tall : ℕ → ℕ → ℕ → LocalState → Task → Parts → Parts
has_grown_tall seat number steps p task parts = one_turn (has_stopped (with_note EntryKind.Tall seat number steps p task parts))
