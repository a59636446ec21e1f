-- A whole rollback.
use Rattle.std.specs.Prelude.{List, [], ◌∷◌, Option}
use Rattle.std.specs.Option.{option_map_or}
use Rattle.ame_store.specs.declared.cell.Cell.{Cell}
use Rattle.ame_rows.specs.declared.notes.Undo.{Undo}
use Rattle.ame_rows.specs.Entries.{named_by}
use Rattle.ame_rows.specs.Access.{changed_at}
use Rattle.ame_rows.specs.LettingGo.{undone_by}

module _ {V : Type 0} where
  -- the cells after each entry of a log is undone, from the last to the first
  abbrev pub all_undone : List (Undo V) → List (Cell V) → List (Cell V)
  all_undone [] cells = cells
  all_undone (undo ∷ undos) cells = changed_at (named_by undo) (undone_by undo) (all_undone undos cells)

  -- a cell after the entry that names its location is undone, if there is one
  abbrev pub rolled_back : Option (Undo V) → Cell V → Cell V
  rolled_back entry cell = option_map_or (λ undo. undone_by undo cell) entry cell
