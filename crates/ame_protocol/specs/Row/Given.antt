-- The values that a seat's run was given, compared with the cells as they are now.
use Rattle.std.specs.Prelude.{◌≡◌, ℕ, List, Option, Some, None, Contains}
use Rattle.std.specs.List.{AllByRecursion}
use Rattle.ame_term.specs.Tree.{Val}
use Rattle.ame_term.specs.Maps.{at}
use Rattle.ame_store.specs.declared.cell.Cell.{Cell}
use Rattle.ame_store.specs.Cells.{IsOwnedBy, IsDead}
use Rattle.ame_rows.specs.declared.notes.ReadNote.{ReadNote}
use Rattle.ame_machine.specs.Run.Local.{LocalState}
use Rattle.ame_protocol.specs.Row.Heap.{Heap, cell_at}
use Rattle.ame_protocol.specs.Row.SeatRun.{SeatRun, HasUsed, IsValidNote}

-- If a run set a value last, the seat holds that value in place in this cell. Otherwise the seat doesn't own the cell.
abbrev pub IsHeld : ℕ → Cell Val → Option Val → Type 0
IsHeld seat cell None = IsOwnedBy seat cell → ⊥
IsHeld seat cell (Some v) = IsOwnedBy seat cell × (cell.value ≡ v)

module _ (heap : Heap) (seat : ℕ) where
  -- A value that was taken at a location is logged with some number. If that read is valid, the value is the committed one. A read that
  -- isn't valid owes nothing.
  pub record IsLogged (reads : List ReadNote) (taken : ℕ × Val) : Type 0 where
    pub note : ReadNote
    pub logged : Contains reads note
    pub place : note.loc.0 ≡ taken.0
    pub given : IsValidNote heap seat note → heap.committed taken.0 ≡ Some taken.1

  -- a cell that the run made is the seat's own, isn't live, and was unset before
  pub record IsOwnNewCell (made : ℕ × Option Val) : Type 0 where
    pub own : IsOwnedBy seat (cell_at heap made.0)
    pub dead : IsDead (cell_at heap made.0)
    pub unset : made.1 ≡ None

  -- what a place of a run was given
  pub record IsGiven (reads : List ReadNote) (p : LocalState) : Type 0 where
    pub seen : AllByRecursion (IsLogged reads) p.seen
    pub own : AllByRecursion (λ e. e.0 ≡ e.1) p.own
    pub made : AllByRecursion IsOwnNewCell p.made
    pub sets : (l : ℕ) → IsHeld seat (cell_at heap l) (at p.sets l)

  -- so it is at each place that has used all inputs
  abbrev pub IsGivenThroughout : SeatRun → Type 0
  IsGivenThroughout run = (n : ℕ) (p : LocalState) → HasUsed run n p → IsGiven run.reads p
