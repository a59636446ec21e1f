-- Events by what they make of the cells. What is committed stays, but by a commit and in unprotected code.
use Rattle.std.specs.Prelude.{◌≡◌, ℕ, ◌≤◌, length}
use Rattle.ame_term.specs.Tree.{Val}
use Rattle.ame_store.specs.declared.cell.Cell.{Cell}
use Rattle.ame_store.specs.Cells.{IsOwnedBy}
use Rattle.ame_store.specs.Changes.{released}
use Rattle.ame_protocol.specs.Row.Heap.{Heap, cell_at}

-- at this location the cell becomes another one, and every other cell stays
pub record BecomesAt (old new : Heap) (l : ℕ) (cell : Cell Val) : Type 0 where
  pub there : cell_at new l ≡ cell
  pub others : (m : ℕ) → (m ≡ l → ⊥) → cell_at new m ≡ cell_at old m
  pub longer : length old.cells ≤ length new.cells

-- what is committed stays
abbrev pub KeepsCommitted : Heap → Heap → Type 0
KeepsCommitted old new = (l : ℕ) → new.committed l ≡ old.committed l

-- each cell that a seat owns is released, and every other cell stays
pub record ReleasesAll (seat : ℕ) (old new : Heap) : Type 0 where
  pub own : (l : ℕ) → IsOwnedBy seat (cell_at old l) → cell_at new l ≡ released (cell_at old l)
  pub others : (l : ℕ) → (IsOwnedBy seat (cell_at old l) → ⊥) → cell_at new l ≡ cell_at old l
  pub longer : length old.cells ≤ length new.cells
