-- The obligations of a seat's row.
use Rattle.std.specs.Prelude.{◌≡◌, ℕ, ◌≤◌, All}
use Rattle.ame_term.specs.declared.types.Sort.{Sort}
use Rattle.ame_rows.specs.declared.notes.ReadNote.{ReadNote}
use Rattle.ame_protocol.specs.Row.Heap.{Heap, cell_at, IsCell}
use Rattle.ame_protocol.specs.Row.SeatRun.{SeatRun}
use Rattle.ame_protocol.specs.Row.Given.{IsGivenThroughout}
use Rattle.ame_protocol.specs.Row.UndoLog.{IsUndoLog}

-- a logged read is of a cell that is there, of protected code, whose number hasn't fallen since
pub record IsNote (heap : Heap) (note : ReadNote) : Type 0 where
  pub there : IsCell heap note.loc.0
  pub past : note.number ≤ (cell_at heap note.loc.0).number
  pub sort : (cell_at heap note.loc.0).sort ≡ Sort.Protected

-- all facts of a row
pub record Owes (heap : Heap) (seat : ℕ) (run : SeatRun) : Type 0 where
  pub given : IsGivenThroughout heap seat run
  pub undos : IsUndoLog heap seat run.undos
  pub notes : All (IsNote heap) run.reads
