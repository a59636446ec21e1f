-- The values that were set at locations.
use Rattle.std.specs.Prelude.{◌≡◌, ℕ, ◌<◌, List, length, slice_index_or}
use Rattle.ame_value.specs.View.{flat_value}
use Rattle.ame_value.specs.declared.val.Val.{Val}
use Rattle.ame_machine_cases.specs.declared.cells.Cell.{Cell}

-- a value is a copy of one that was set at the location
pub record IsHeldAt (cells : List Cell) (l : ℕ) (v : Val) : Type 0 where
  pub place : ℕ
  pub within : place < length cells
  pub cell : Cell
  pub is : cell ≡ slice_index_or cells place cell
  pub location : cell.at.0 ≡ l
  pub value : flat_value v ≡ flat_value cell.value
