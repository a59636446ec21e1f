-- Cells with values of any kind, seen as plain data.
use Rattle.std.proofs.Common.{ℕ, List, [], map}
use Rattle.ame_term.specs.Tree.{Val}
use Rattle.ame_store.specs.declared.cell.Cell.{Cell}
use Rattle.ame_protocol.specs.Row.Shown.{shown_cell}

module _ {V : Type 0} (view : V → Val) where
  abbrev show : List (Cell V) → List (Cell Val)
  show cells = map (shown_cell view) cells
