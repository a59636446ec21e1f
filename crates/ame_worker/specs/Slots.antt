-- The slots that an engine keeps for its seats.
use Rattle.std.specs.Prelude.{◌≡◌, ◌≢◌, ℕ, Some, None}
use Rattle.ame_term.specs.Tree.{Val, Tree, unit_tree}
use Rattle.ame_pool.specs.Roster.{Roster}
use Rattle.ame_rows.specs.MemoryView.{Log, no_log, row_at}
use Rattle.ame_protocol.specs.declared.types.Task.{Task}
use Rattle.ame_protocol.specs.Engine.Parts.{Parts, task_at, attempt_of, term_at}

-- what a seat is at, its logs, and the term from which it runs its member
pub record Slot : Type 0 where
  pub task : Task
  pub notes : Log Val
  pub start : Tree

-- of a seat that has nothing at work
abbrev pub empty_slot : Slot
empty_slot = record { task = Task.Idle; notes = no_log; start = unit_tree }

-- the term from which the member of a task is run
abbrev pub start_of : Roster Tree → Task → Tree
start_of pool task = elim (attempt_of task) [
  | None ↦ unit_tree
  | Some attempt ↦ term_at pool attempt.tried.number
]

abbrev pub slot_at : Parts → ℕ → Slot
slot_at parts seat = record {
  task = task_at parts.tasks seat;
  notes = row_at parts.memory.rows seat;
  start = start_of parts.pool (task_at parts.tasks seat);
}

-- the slot of each other seat stays
abbrev pub SlotsStay : ℕ → Parts → Parts → Type 0
SlotsStay seat old new = (other : ℕ) → other ≢ seat → slot_at new other ≡ slot_at old other
