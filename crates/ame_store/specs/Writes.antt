-- The effect of a write of a seat, by its answer.
use Rattle.std.specs.Prelude.{◌≡◌, ◌≢◌, ℕ, ◌+◌, List, Some, slice_set}
use Rattle.ame_store.specs.Cells.{IsFree, IsOwnedBy}
use Rattle.ame_store.specs.declared.cell.Cell.{Cell}
use Rattle.ame_store.specs.declared.taken.Taken.{Taken}
use Rattle.ame_store.specs.declared.taken.Taken.TheVariants.{First, Again, Owned}

module _ {V : Type 0} where
  -- the facts that each answer gives of the cell as it was
  abbrev pub Tells : ℕ → V → Cell V → Taken V → Type 0
  Tells seat value cell (First had number) = IsFree cell × (had ≡ cell.value) × (number ≡ cell.number)
  Tells seat value cell (Again had) = IsOwnedBy seat cell × (had ≡ cell.value)
  Tells seat value cell (Owned other back) = IsOwnedBy other cell × (other ≢ seat) × (back ≡ value)

  -- the cell, taken by a seat
  abbrev pub taken_by : ℕ → V → Cell V → Cell V
  taken_by seat value cell = record cell { value = value; number = cell.number + 1; owner = Some seat }

  -- the cells after each answer, if this cell was at the location
  abbrev pub written : ℕ → ℕ → V → Taken V → List (Cell V) → Cell V → List (Cell V)
  written seat l value (First had number) cells cell = slice_set cells l (taken_by seat value cell)
  written seat l value (Again had) cells cell = slice_set cells l (record cell { value = value })
  written seat l value (Owned other back) cells cell = cells
