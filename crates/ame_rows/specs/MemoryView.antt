-- The shared memory, as contracts see it.
use Rattle.std.specs.Prelude.{ℕ, List, [], map, slice_get, slice_set, unwrap_or}
use Rattle.ame_store.specs.declared.cell.Cell.{Cell}
use Rattle.ame_rows.specs.declared.notes.ReadNote.{ReadNote}
use Rattle.ame_rows.specs.declared.notes.Undo.{Undo}
use Rattle.ame_rows.specs.Log.{RoomyLog}

-- the logs of a seat, whatever their room: what it read, what it was given, and what to undo, each from the first on
pub record Log (V : Type 0) : Type 0 where
  pub reads : List ReadNote
  pub inputs : List V
  pub undos : List (Undo V)

-- the cells that all seats share, and the logs of each seat
pub record MemoryView (V : Type 0) : Type 0 where
  pub cells : List (Cell V)
  pub rows : List (Log V)

module _ {V : Type 0} where
  -- of a seat that read nothing, was given nothing and wrote nothing
  abbrev pub no_log : Log V
  no_log = record { reads = []; inputs = []; undos = [] }

  -- logs without their room
  abbrev pub without_room : RoomyLog V → Log V
  without_room logs = record { reads = logs.reads; inputs = logs.inputs; undos = logs.undos }

  -- these cells and these logs
  abbrev pub memory_of : List (Cell V) → List (RoomyLog V) → MemoryView V
  memory_of cells rows = record { cells = cells; rows = map without_room rows }

  -- the logs of a seat, empty for one that isn't there
  abbrev pub row_at : List (Log V) → ℕ → Log V
  row_at rows seat = unwrap_or (slice_get rows seat) no_log

  -- the cells and the logs of this seat become these, and the logs of every other seat stay
  abbrev pub by_seat : ℕ → List (Cell V) → Log V → MemoryView V → MemoryView V
  by_seat seat cells notes contents = record { cells = cells; rows = slice_set contents.rows seat notes }
