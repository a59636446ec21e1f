-- Cells as plain data, with what is committed: what contracts see of a store and of a replayed state.
use Rattle.std.specs.Prelude.{◌≡◌, ℕ, ◌<◌, List, length, slice_index_or, Option, Some, None, true, false}
use Rattle.ame_term.specs.Tree.{Val}
use Rattle.ame_term.specs.Maps.{at}
use Rattle.ame_term.specs.declared.types.Sort.{Sort}
use Rattle.ame_store.specs.declared.cell.Cell.{Cell}
use Rattle.ame_store.specs.Cells.{IsFree, IsDead}

-- the cells, and the committed value of each location
pub record Heap : Type 0 where
  pub cells : List (Cell Val)
  pub committed : ℕ → Option Val

-- Returns the cell that a location without a cell counts as: no seat owns it, and it isn't live.
abbrev pub no_cell : Cell Val
no_cell = record { sort = Sort.Protected; ty = record { 0 = 0 }; value = Val.Unit; number = 0; owner = None; live = false }

-- the cell at a location
abbrev pub cell_at : Heap → ℕ → Cell Val
cell_at heap l = slice_index_or heap.cells l no_cell

-- there is a cell at a location
abbrev pub IsCell : Heap → ℕ → Type 0
IsCell heap l = l < length heap.cells

-- it is there for all
abbrev pub IsLive : Cell Val → Type 0
IsLive cell = cell.live ≡ true

-- If no live cell is at a location, nothing is committed there. The value in place in a live cell without an owner is committed.
pub record IsCommitted (heap : Heap) : Type 0 where
  pub dead : (l : ℕ) → IsDead (cell_at heap l) → heap.committed l ≡ None
  pub free : (l : ℕ) → IsLive (cell_at heap l) → IsFree (cell_at heap l) → heap.committed l ≡ Some (cell_at heap l).value

-- what is committed is what a store has
abbrev pub ShowsStore : Heap → List (ℕ × Val) → Type 0
ShowsStore heap store = (l : ℕ) → heap.committed l ≡ at store l
