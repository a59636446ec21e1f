-- Cells and entries with values of any kind, seen as plain data.
use Rattle.std.specs.Prelude.{ℕ, List, map, Option}
use Rattle.ame_term.specs.Tree.{Val}
use Rattle.ame_store.specs.declared.cell.Cell.{Cell}
use Rattle.ame_rows.specs.declared.notes.Undo.{Undo}
use Rattle.ame_rows.specs.declared.notes.Undo.TheVariants.{Wrote, Made}
use Rattle.ame_protocol.specs.Row.Heap.{Heap}

module _ {V : Type 0} (view : V → Val) where
  -- a cell, with the plain data that its value stands for
  abbrev pub shown_cell : Cell V → Cell Val
  shown_cell cell = record { sort = cell.sort; ty = cell.ty; value = view cell.value; number = cell.number; owner = cell.owner; live = cell.live }

  -- the same of an entry
  abbrev pub shown_undo : Undo V → Undo Val
  shown_undo (Wrote l number old) = Wrote l number (view old)
  shown_undo (Made l) = Made l

  -- all cells, with what is committed
  abbrev pub shown_heap : List (Cell V) → (ℕ → Option Val) → Heap
  shown_heap cells committed = record { cells = map shown_cell cells; committed = committed }
