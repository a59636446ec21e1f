-- The parts of an engine, as plain data. Look-ups are total.
use Rattle.std.specs.Prelude.{ℕ, ℤ, Bool, List, ◌++◌, Option, Some, None, option_map, slice_index_or, unwrap_or}
use Rattle.ame_term.specs.Signature.{Signature}
use Rattle.ame_term.specs.Tree.{Val, Tree, unit_tree}
use Rattle.ame_journal.specs.declared.entry.Entry.{Entry}
use Rattle.ame_pool.specs.Roster.{Roster}
use Rattle.ame_pool.specs.Calls.{machine_of}
use Rattle.ame_rows.specs.MemoryView.{MemoryView, row_at}
use Rattle.ame_protocol.specs.Row.Heap.{Heap}
use Rattle.ame_protocol.specs.Row.SeatRun.{SeatRun}
use Rattle.ame_protocol.specs.declared.types.Limits.{Limits}
use Rattle.ame_protocol.specs.declared.types.Tried.{Tried}
use Rattle.ame_protocol.specs.declared.types.Attempt.{Attempt}
use Rattle.ame_protocol.specs.declared.types.Task.{Task}
use Rattle.ame_protocol.specs.Engine.Logged.{heap_of, logged_run}

-- The program, the signature for which it is typed, the limits and the entries from which the engine was
-- opened stay. The journal grows; the memory has the cells and the logs of each seat, and the tasks say what each seat is
-- at. The pool has the term of each member: of one at rest the term, of a busy one the term from which its seat runs.
pub record Parts : Type 0 where
  pub program : Tree
  pub signature : Signature
  pub limits : Limits
  pub base : List Entry
  pub entries : List Entry
  pub memory : MemoryView Val
  pub tasks : List Task
  pub pool : Roster Tree
  pub output : List ℤ
  pub next : ℕ
  pub turns : ℕ
  pub tried : List Tried
  pub stopped : Bool

-- the base, then the journal
abbrev pub whole_journal : Parts → List Entry
whole_journal parts = parts.base ++ parts.entries

-- the cells, with what is committed
abbrev pub heap_in : Parts → Heap
heap_in parts = heap_of parts.memory

-- what a seat is at
abbrev pub task_at : List Task → ℕ → Task
task_at tasks seat = slice_index_or tasks seat Task.Idle

-- the attempt that it has at work
abbrev pub attempt_of : Task → Option Attempt
attempt_of Task.Idle = None
attempt_of (Task.Running attempt) = Some attempt
attempt_of (Task.Free attempt) = Some attempt
attempt_of (Task.Undoing attempt reason) = Some attempt

-- the attempt of a seat that runs code, and undoes nothing
abbrev pub working : Task → Option Attempt
working (Task.Running attempt) = Some attempt
working (Task.Free attempt) = Some attempt
working _ = None

-- the member that it has at work
abbrev pub member_of : Task → Option ℕ
member_of task = option_map (λ attempt. attempt.tried.number) (attempt_of task)

-- the term of a member in the pool
abbrev pub term_at : Roster Tree → ℕ → Tree
term_at pool number = unwrap_or (machine_of number pool) unit_tree

-- the run of a seat that began a member
abbrev pub run_in : Parts → ℕ → ℕ → SeatRun
run_in parts seat number = logged_run (term_at parts.pool number) (row_at parts.memory.rows seat)
