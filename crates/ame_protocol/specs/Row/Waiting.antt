-- A run that has failed at a condition and waits for what it read.
use Rattle.std.specs.Prelude.{◌≡◌, ℕ, ◌≤◌, ◌⊎◌, List, map, true, Some, None, All, Contains}
use Rattle.std.specs.List.{AllByRecursion}
use Rattle.ame_term.specs.Tree.{Val}
use Rattle.ame_term.specs.Context.{focus}
use Rattle.ame_term.specs.declared.types.Sort.{Sort}
use Rattle.ame_journal.specs.Replayed.{is_false_condition}
use Rattle.ame_store.specs.declared.cell.Cell.{Cell}
use Rattle.ame_store.specs.Cells.{IsOwnedBy, IsDead}
use Rattle.ame_rows.specs.declared.notes.ReadNote.{ReadNote}
use Rattle.ame_machine.specs.Run.Local.{LocalState}
use Rattle.ame_protocol.specs.Row.Heap.{Heap, cell_at, IsCell}
use Rattle.ame_protocol.specs.Row.SeatRun.{SeatRun, HasUsed}

-- The cell isn't live and won't be: it was let go, or the seat that made it has it still and lets it go.
pub record IsGone (seat : ℕ) (cell : Cell Val) : Type 0 where
  pub dead : IsDead cell
  pub over : (2 ≤ cell.number) ⊎ (IsOwnedBy seat cell × (cell.number ≡ 1))

-- the locations of logged reads
abbrev pub read_places : List ReadNote → List ℕ
read_places reads = map (λ note. note.loc.0) reads

-- A seat's run has come to a condition that is false. Each value that it took is the committed one of a
-- location that is watched, and each location that it made is gone. What is watched is of protected code.
pub record IsWaiting (heap : Heap) (seat : ℕ) (watched : List ℕ) (run : SeatRun) (n : ℕ) (p : LocalState) : Type 0 where
  pub place : HasUsed run n p
  pub fails : is_false_condition (focus p.term) ≡ true
  pub seen : AllByRecursion (λ e. Contains watched e.0 × (heap.committed e.0 ≡ Some e.1)) p.seen
  pub own : AllByRecursion (λ e. e.0 ≡ e.1) p.own
  pub made : AllByRecursion (λ e. IsGone seat (cell_at heap e.0) × (e.1 ≡ None)) p.made
  pub sorts : All (λ l. IsCell heap l × ((cell_at heap l).sort ≡ Sort.Protected)) watched
