-- The events that used up the turns of an engine.
use Rattle.std.specs.Prelude.{◌≡◌, ℕ, ◌+◌, ◌-◌, ◌*◌, ◌/◌, ◌≤◌, max, true, false, List, length, Some, if◌then◌else◌}
use Rattle.std.specs.List.{sum_by}
use Rattle.ame_term.specs.Tree.{Val}
use Rattle.ame_journal.specs.declared.entry.Entry.{Entry}
use Rattle.ame_rows.specs.MemoryView.{Log, row_at}
use Rattle.ame_protocol.specs.declared.types.Tried.{Tried}
use Rattle.ame_protocol.specs.declared.types.Attempt.{Attempt}
use Rattle.ame_protocol.specs.declared.types.UndoReason.{UndoReason}
use Rattle.ame_protocol.specs.declared.types.Task.{Task}
use Rattle.ame_protocol.specs.Engine.Parts.{Parts, task_at, attempt_of}
use Rattle.ame_protocol.specs.Bounds.Seats.{over_seats}

-- what entries pay: their steps and one
abbrev pub paid_by_entries : List Entry → ℕ
paid_by_entries entries = sum_by (λ e. e.steps + 1) entries

-- what tries pay: their steps, a slice and one
abbrev pub paid_by_tries : ℕ → List Tried → ℕ
paid_by_tries slice tried = sum_by (λ t. t.steps + slice + 1) tried

-- the turns that entries and tries pay
abbrev pub paid : ℕ → List Entry → List Tried → ℕ
paid slice entries tried = 3 * (paid_by_entries entries + paid_by_tries slice tried)

-- the turns that an attempt may have used: one to begin, one for each input, and one for each check that found it valid
abbrev pub used_at : ℕ → Log Val → Attempt → ℕ
used_at slice notes attempt = 1 + (length notes.inputs + attempt.tried.steps / slice)

-- Returns the turns that a row at work may have used without an entry for them. A row that is undone may have used one more if it turned
-- back, and one for each entry that it has undone.
abbrev pub allowance : ℕ → Log Val → Task → ℕ
allowance slice notes Task.Idle = 0
allowance slice notes (Task.Running attempt) = if attempt.logged then 0 else used_at slice notes attempt
allowance slice notes (Task.Free attempt) = if attempt.logged then 0 else used_at slice notes attempt
allowance slice notes (Task.Undoing attempt reason) =
    if attempt.logged then 0 else used_at slice notes attempt + (1 + (length notes.inputs - length notes.undos))

-- the undos that a noted row still needs, at least one
abbrev pub undos_left : Log Val → Task → ℕ
undos_left notes (Task.Undoing attempt UndoReason.Noted) = max 1 (length notes.undos)
undos_left notes _ = 0

-- all allowances of an engine, and all undos that are left
abbrev pub allowances : Parts → ℕ
allowances parts = over_seats parts.limits.seats (λ seat. allowance parts.limits.slice (row_at parts.memory.rows seat) (task_at parts.tasks seat))

abbrev pub all_undos_left : Parts → ℕ
all_undos_left parts = over_seats parts.limits.seats (λ seat. undos_left (row_at parts.memory.rows seat) (task_at parts.tasks seat))

-- While no stop is kept, an entry was added for a task exactly if its row was noted.
abbrev pub IsToldInTime : Task → Type 0
IsToldInTime Task.Idle = Unit {0}
IsToldInTime (Task.Running attempt) = attempt.logged ≡ false
IsToldInTime (Task.Free attempt) = attempt.logged ≡ false
IsToldInTime (Task.Undoing attempt UndoReason.RolledBack) = attempt.logged ≡ false
IsToldInTime (Task.Undoing attempt UndoReason.Noted) = attempt.logged ≡ true
IsToldInTime (Task.Undoing attempt UndoReason.Stopped) = ⊥

-- The turns, with the undos that noted rows still need, are paid by the entries, by the tries, and by what the rows at work are
-- allowed. A row has no more inputs than its steps at the last valid check and a slice, and no more to undo than inputs.
pub record HasPaidTurns (parts : Parts) : Type 0 where
  pub some_slice : 1 ≤ parts.limits.slice
  pub turns : parts.turns + all_undos_left parts ≤ paid parts.limits.slice parts.entries parts.tried + allowances parts
  pub inputs : (seat : ℕ) (attempt : Attempt) → attempt_of (task_at parts.tasks seat) ≡ Some attempt
      → length (row_at parts.memory.rows seat).inputs ≤ attempt.tried.steps + parts.limits.slice
  pub undos : (seat : ℕ) → length (row_at parts.memory.rows seat).undos ≤ length (row_at parts.memory.rows seat).inputs
  pub told : parts.stopped ≡ false → (seat : ℕ) → IsToldInTime (task_at parts.tasks seat)
