-- The rows that a shared shell keeps for its seats.
use Rattle.std.specs.Prelude.{ℕ, Bool, false, List, [], map, slice_index_or}
use Rattle.std.specs.List.{range_with_len}
use Rattle.ame_rows.specs.declared.notes.ReadNote.{ReadNote}
use Rattle.ame_rows.specs.MemoryView.{row_at}
use Rattle.ame_protocol.specs.declared.types.Task.{Task}
use Rattle.ame_protocol.specs.Engine.Parts.{task_at}
use Rattle.ame_engine.specs.Core.{Core}
use Rattle.ame_shell.specs.declared.work.Work.{Work}
use Rattle.ame_shell.specs.declared.work.Work.TheVariants as work

-- a seat's work in flight when it gave the turn last, and whether a stop was kept then
pub record Kept (M : Type 0) : Type 0 where
  pub hand : Work M
  pub marked : Bool

-- what a seat is at, what it read, its work in flight when it gave the turn last, and whether a stop was kept then
pub record SeatRow (M : Type 0) : Type 0 where
  pub task : Task
  pub reads : List ReadNote
  pub hand : Work M
  pub marked : Bool

module _ {M : Type 0} where
  abbrev pub nothing_kept : Kept M
  nothing_kept = record { hand = work.Idle; marked = false }

  -- of a seat that did nothing
  abbrev pub empty_row : SeatRow M
  empty_row = record { task = Task.Idle; reads = []; hand = work.Idle; marked = false }

  abbrev pub kept_at : List (Kept M) → ℕ → Kept M
  kept_at places seat = slice_index_or places seat nothing_kept

module _ {C V M : Type 0} where
  -- a seat's row, by the engine and by what was kept
  abbrev pub row_of : Core C V M → ℕ → Kept M → SeatRow M
  row_of core seat kept = record {
    task = task_at core.tasks seat;
    reads = (row_at core.memory.rows seat).reads;
    hand = kept.hand;
    marked = kept.marked;
  }

  -- those of all seats, in order
  abbrev pub rows_in : Core C V M → List (Kept M) → List (SeatRow M)
  rows_in core places = map (λ seat. row_of core seat (kept_at places seat)) (range_with_len 0 core.limits.seats)
