-- A shared memory of plain data, in the words of what a row owes.
use Rattle.std.specs.Prelude.{ℕ}
use Rattle.ame_term.specs.Tree.{Val, Tree}
use Rattle.ame_term.specs.declared.types.Loc.{Loc}
use Rattle.ame_rows.specs.MemoryView.{Log, MemoryView, row_at, by_seat}
use Rattle.ame_rows.specs.Committed.{committed}
use Rattle.ame_rows.specs.Access.{notes_read}
use Rattle.ame_protocol.specs.Row.Heap.{Heap, cell_at}
use Rattle.ame_protocol.specs.Row.SeatRun.{SeatRun}

-- the cells of a shared memory, with what is committed
abbrev pub heap_of : MemoryView Val → Heap
heap_of memory = record { cells = memory.cells; committed = committed memory }

-- the run of a seat that began with a term, by its logs
abbrev pub logged_run : Tree → Log Val → SeatRun
logged_run start notes = record { start = start; inputs = notes.inputs; reads = notes.reads; undos = notes.undos }

-- a seat reads the value in place, which is plain data: a copy of it is the same
abbrev pub read_by : ℕ → Loc → MemoryView Val → MemoryView Val
read_by seat l memory =
    by_seat seat memory.cells (notes_read seat l (cell_at (heap_of memory) l.0).value memory.cells (row_at memory.rows seat)) memory
