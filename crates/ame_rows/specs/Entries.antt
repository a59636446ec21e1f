-- The entries of an undo log, and the cells that they name.
use Rattle.std.specs.Prelude.{◌≡◌, ◌==◌, ◌+◌, ℕ, List, map, slice_get, find, Option, Some, None, ⊤, nat_eq}
use Rattle.std.specs.List.{IsDistinct}
use Rattle.ame_store.specs.Cells.{IsOwnedBy, IsDead}
use Rattle.ame_store.specs.declared.cell.Cell.{Cell}
use Rattle.ame_rows.specs.declared.notes.Undo.{Undo}
use Rattle.ame_rows.specs.declared.notes.Undo.TheVariants.{Wrote, Made}

module _ {V : Type 0} where
  -- the location that an entry names
  abbrev pub named_by : Undo V → ℕ
  named_by (Wrote l number old) = l.0
  named_by (Made l) = l.0

  -- the locations that a log names
  abbrev pub places : List (Undo V) → List ℕ
  places undos = map named_by undos

  -- the entry of a log that names a location
  abbrev pub entry_at : List (Undo V) → ℕ → Option (Undo V)
  entry_at undos l = find (λ undo. named_by undo == l) undos

  -- an entry fits a cell: the seat took the cell at the number that the entry has, or made it
  abbrev pub IsEntryFor : ℕ → Undo V → Cell V → Type 0
  IsEntryFor seat (Wrote l number old) cell = IsOwnedBy seat cell × (cell.number ≡ number + 1)
  IsEntryFor seat (Made l) cell = IsOwnedBy seat cell × IsDead cell × (cell.number ≡ 1)

  -- a seat owns the cell at a location, if one is there, exactly if its log has an entry, which fits the cell
  abbrev pub OwnsAsLogged : ℕ → Option (Cell V) → Option (Undo V) → Type 0
  OwnsAsLogged seat None None = ⊤
  OwnsAsLogged seat None (Some undo) = ⊥
  OwnsAsLogged seat (Some cell) None = IsOwnedBy seat cell → ⊥
  OwnsAsLogged seat (Some cell) (Some undo) = IsEntryFor seat undo cell

  -- an undo log of a seat names each location once, and those of the cells that the seat owns
  pub record IsLogOf (seat : ℕ) (cells : List (Cell V)) (undos : List (Undo V)) : Type 0 where
    pub once : IsDistinct nat_eq (places undos)
    pub owned : (l : ℕ) → OwnsAsLogged seat (slice_get cells l) (entry_at undos l)
