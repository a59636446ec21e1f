-- The undo log of a seat.
use Rattle.std.specs.Prelude.{◌≡◌, ℕ, ◌+◌, List, map, Some, All, Contains, nat_eq}
use Rattle.std.specs.List.{IsDistinct}
use Rattle.ame_term.specs.Tree.{Val}
use Rattle.ame_store.specs.Cells.{IsOwnedBy, IsDead}
use Rattle.ame_rows.specs.declared.notes.Undo.{Undo}
use Rattle.ame_rows.specs.declared.notes.Undo.TheVariants.{Wrote, Made}
use Rattle.ame_protocol.specs.Row.Heap.{Heap, cell_at, IsLive}

-- the location of an entry
abbrev pub undo_place : Undo Val → ℕ
undo_place (Wrote l number old) = l.0
undo_place (Made l) = l.0

module _ (heap : Heap) (seat : ℕ) where
  -- The seat took a cell that had the number and the value of the entry. If the cell is live, that value is the committed one. Or the seat
  -- made a cell, which isn't live.
  abbrev pub IsUndo : Undo Val → Type 0
  IsUndo (Wrote l number old) =
      IsOwnedBy seat (cell_at heap l.0) × ((cell_at heap l.0).number ≡ number + 1) × (IsLive (cell_at heap l.0) → heap.committed l.0 ≡ Some old)
  IsUndo (Made l) = IsOwnedBy seat (cell_at heap l.0) × ((cell_at heap l.0).number ≡ 1) × IsDead (cell_at heap l.0)

  -- each location stands once in the log, and each cell that the seat owns stands there
  pub record IsUndoLog (undos : List (Undo Val)) : Type 0 where
    pub once : IsDistinct nat_eq (map undo_place undos)
    pub entries : All IsUndo undos
    pub named : (l : ℕ) → IsOwnedBy seat (cell_at heap l) → Contains (map undo_place undos) l
