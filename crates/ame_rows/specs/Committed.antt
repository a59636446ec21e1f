-- The committed value of a location.
use Rattle.std.specs.Prelude.{ℕ, List, cond, Option, Some, None, option_and_then, slice_get}
use Rattle.ame_rows.specs.declared.notes.Undo.{Undo}
use Rattle.ame_rows.specs.declared.notes.Undo.TheVariants.{Wrote, Made}
use Rattle.ame_rows.specs.MemoryView.{Log, MemoryView, row_at}
use Rattle.ame_rows.specs.Entries.{entry_at}

module _ {V : Type 0} where
  -- the value that undoing an entry puts back
  abbrev pub old_value : Undo V → Option V
  old_value (Wrote l number old) = Some old
  old_value (Made l) = None

  -- the value in place if no seat owns the cell, otherwise the one that its owner would put back
  abbrev pub settled_value : List (Log V) → ℕ → V → Option ℕ → Option V
  settled_value rows l value None = Some value
  settled_value rows l value (Some owner) = option_and_then old_value (entry_at (row_at rows owner).undos l)

  -- the committed value of a location with a live cell, and none elsewhere
  abbrev pub committed : MemoryView V → ℕ → Option V
  committed contents l =
      option_and_then (λ cell. cond cell.live (settled_value contents.rows l cell.value cell.owner) None) (slice_get contents.cells l)
