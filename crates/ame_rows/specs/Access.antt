-- The effects of reads, writes and allocations of a seat, and of those of unprotected code, on a shared memory.
use Rattle.std.specs.Prelude.{◌≡◌, ◌==◌, ℕ, List, [], ◌∷◌, ◌++◌, cond, length, Bool, false, Option, Some, None, slice_get, slice_set}
use Rattle.std.specs.Option.{ForSome, option_map_or}
use Rattle.ame_term.specs.declared.types.Loc.{Loc}
use Rattle.ame_term.specs.declared.types.Sort.{Sort}
use Rattle.ame_term.specs.declared.types.TyNo.{TyNo}
use Rattle.ame_store.specs.declared.cell.Cell.{Cell}
use Rattle.ame_store.specs.Changes.{made, replaced}
use Rattle.ame_store.specs.Writes.{taken_by}
use Rattle.ame_rows.specs.declared.notes.Undo.TheVariants.{Wrote, Made}
use Rattle.ame_rows.specs.MemoryView.{Log, MemoryView, row_at, by_seat}

-- the other seat among the owners of a cell, if one is
abbrev pub other_owner : ℕ → Option ℕ → Option ℕ
other_owner seat None = None
other_owner seat (Some owner) = cond (owner == seat) None (Some owner)

module _ {V : Type 0} where
  -- no other seat owns the cell, so this one may write it
  abbrev pub IsOpenTo : ℕ → Cell V → Type 0
  IsOpenTo seat cell = other_owner seat cell.owner ≡ None

  -- the cell at a location, if one is there, becomes another one
  abbrev pub changed_at : ℕ → (Cell V → Cell V) → List (Cell V) → List (Cell V)
  changed_at l change cells = option_map_or (λ cell. slice_set cells l (change cell)) (slice_get cells l) cells

  -- whether this seat owns the cell
  abbrev pub is_owned_by : ℕ → Cell V → Bool
  is_owned_by seat cell = option_map_or (λ owner. owner == seat) cell.owner false

  -- ---- read
  -- the logs of a seat that reads a cell: the input alone if it owns the cell, otherwise with the number of the cell
  abbrev pub noted_read : ℕ → Loc → V → Cell V → Log V → Log V
  noted_read seat l input cell notes = record notes {
    reads = cond (is_owned_by seat cell) notes.reads (notes.reads ++ record { loc = l; number = cell.number } ∷ []);
    inputs = notes.inputs ++ input ∷ [];
  }

  -- the logs after a read that gave this input
  abbrev pub notes_read : ℕ → Loc → V → List (Cell V) → Log V → Log V
  notes_read seat l input cells notes = option_map_or (λ cell. noted_read seat l input cell notes) (slice_get cells l.0) notes

  -- a read of a seat logs a copy of the value in place as its next input, whichever seat owns the cell
  pub record IsRead (same : V → V → Type 0) (seat : ℕ) (l : Loc) (cells : List (Cell V)) (old new : Log V) : Type 0 where
    pub input : V
    pub copied : ForSome (slice_get cells l.0) (λ cell. same cell.value input)
    pub becomes : new ≡ notes_read seat l input cells old

  -- ---- write
  -- a cell that a seat writes, by its owner: it is taken, or owned still, or stays
  abbrev pub overwritten : ℕ → V → Option ℕ → Cell V → Cell V
  overwritten seat value None cell = taken_by seat value cell
  overwritten seat value (Some owner) cell = cond (owner == seat) (record cell { value = value }) cell

  -- the logs of a seat that writes a cell, by its owner: a first write is to be undone, and one that is refused isn't logged
  abbrev pub noted_write : ℕ → Loc → V → Option ℕ → Cell V → Log V → Log V
  noted_write seat l input None cell notes = record notes {
    inputs = notes.inputs ++ input ∷ [];
    undos = notes.undos ++ Wrote l cell.number cell.value ∷ [];
  }
  noted_write seat l input (Some owner) cell notes = cond (owner == seat) (record notes { inputs = notes.inputs ++ input ∷ [] }) notes

  -- the logs after a write that is given this input
  abbrev pub notes_written : ℕ → Loc → V → List (Cell V) → Log V → Log V
  notes_written seat l input cells notes = option_map_or (λ cell. noted_write seat l input cell.owner cell notes) (slice_get cells l.0) notes

  -- a write of a seat
  abbrev pub written_by : ℕ → Loc → V → V → MemoryView V → MemoryView V
  written_by seat l value input contents = by_seat seat (changed_at l.0 (λ cell. overwritten seat value cell.owner cell) contents.cells)
      (notes_written seat l input contents.cells (row_at contents.rows seat)) contents

  -- ---- allocate
  -- the location that a new cell gets
  abbrev pub next_place : List (Cell V) → Loc
  next_place cells = record { 0 = length cells }

  -- the logs after an allocation at this location that is given this input
  abbrev pub notes_allocated : Loc → V → Log V → Log V
  notes_allocated l input notes = record notes { inputs = notes.inputs ++ input ∷ []; undos = notes.undos ++ Made l ∷ [] }

  -- an allocation of a seat
  abbrev pub allocated_by : ℕ → Sort → TyNo → V → V → MemoryView V → MemoryView V
  allocated_by seat sort ty value input contents = by_seat seat (contents.cells ++ made sort ty value (Some seat) ∷ [])
      (notes_allocated (next_place contents.cells) input (row_at contents.rows seat)) contents

  -- ---- unprotected code
  -- a cell that no seat owns is written
  abbrev pub put_at : ℕ → V → MemoryView V → MemoryView V
  put_at l value contents = record contents { cells = changed_at l (replaced value) contents.cells }

  -- a new cell that no seat owns
  abbrev pub born : Sort → TyNo → V → MemoryView V → MemoryView V
  born sort ty value contents = record contents { cells = contents.cells ++ made sort ty value None ∷ [] }
