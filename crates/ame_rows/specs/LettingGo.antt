-- The release of the cells of a seat.
use Rattle.std.specs.Prelude.{ℕ, ◌-◌, List, map, take, cond, length, Option, slice_get, nat_lt}
use Rattle.std.specs.Option.{option_map_or}
use Rattle.ame_store.specs.declared.cell.Cell.{Cell}
use Rattle.ame_store.specs.Changes.{let_go, released, restored}
use Rattle.ame_rows.specs.declared.notes.Undo.{Undo}
use Rattle.ame_rows.specs.declared.notes.Undo.TheVariants.{Wrote, Made}
use Rattle.ame_rows.specs.MemoryView.{Log, MemoryView, no_log, row_at, by_seat}
use Rattle.ame_rows.specs.Entries.{named_by}
use Rattle.ame_rows.specs.Access.{changed_at, is_owned_by}

module _ {V : Type 0} where
  -- ---- a commit
  -- the cell, released if this seat owns it
  abbrev pub released_by : ℕ → Cell V → Cell V
  released_by seat cell = cond (is_owned_by seat cell) (released cell) cell

  -- each cell that a seat owns is released, and its logs are empty
  abbrev pub released_all : ℕ → MemoryView V → MemoryView V
  released_all seat contents = by_seat seat (map (released_by seat) contents.cells) no_log contents

  -- ---- a rollback
  -- the cell, let go as an entry says: its old value is back, or it is dead for good
  abbrev pub undone_by : Undo V → Cell V → Cell V
  undone_by (Wrote l number old) cell = restored old cell
  undone_by (Made l) cell = let_go cell

  -- the last entry of a log, and the others
  abbrev pub last_entry : List (Undo V) → Option (Undo V)
  last_entry undos = slice_get undos (length undos - 1)

  abbrev pub but_last : List (Undo V) → List (Undo V)
  but_last undos = take (length undos - 1) undos

  -- the cells after the last entry of a log is undone
  abbrev pub cells_undone : List (Undo V) → List (Cell V) → List (Cell V)
  cells_undone undos cells = option_map_or (λ undo. changed_at (named_by undo) (undone_by undo) cells) (last_entry undos) cells

  -- the logs after it: empty once nothing is left to undo
  abbrev pub notes_undone : Log V → Log V
  notes_undone notes = cond (nat_lt 1 (length notes.undos)) (record notes { undos = but_last notes.undos }) no_log

  -- the last entry of a seat is undone, if there is one
  abbrev pub undone_last : ℕ → MemoryView V → MemoryView V
  undone_last seat contents = let notes = row_at contents.rows seat in by_seat seat (cells_undone notes.undos contents.cells) (notes_undone notes) contents
