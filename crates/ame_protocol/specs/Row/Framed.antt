-- The changes that the other seats may make, seen from one seat.
use Rattle.std.specs.Prelude.{◌≡◌, ℕ, ◌<◌, ◌≤◌, ◌⊎◌, length, MatchOption}
use Rattle.ame_term.specs.Tree.{Val}
use Rattle.ame_store.specs.declared.cell.Cell.{Cell}
use Rattle.ame_store.specs.Cells.{IsOwnedBy}
use Rattle.ame_protocol.specs.Row.Heap.{Heap, cell_at, IsCell, IsLive}

-- Others changed a cell. The seat owns it neither before nor after. Its number grew, unless one of them still owns it. A live cell stays
-- live. A cell that wasn't live may be live now only if a seat had just made it.
pub record IsChangedByOthers (seat : ℕ) (old new : Cell Val) : Type 0 where
  pub before : IsOwnedBy seat old → ⊥
  pub after : IsOwnedBy seat new → ⊥
  pub number : MatchOption new.owner (old.number < new.number) (λ _. old.number ≤ new.number)
  pub sort : new.sort ≡ old.sort
  pub lives : IsLive old → IsLive new
  pub revives : IsLive new → IsLive old ⊎ (old.number ≡ 1)

-- A location stays; or others changed it; or a cell is born there, which the seat doesn't own.
pub data IsFramedAt (seat : ℕ) (old new : Heap) (l : ℕ) : Type 0 where
  stays : cell_at new l ≡ cell_at old l → new.committed l ≡ old.committed l → IsFramedAt seat old new l
  changed : IsChangedByOthers seat (cell_at old l) (cell_at new l) → IsFramedAt seat old new l
  born : (IsCell old l → ⊥) → (IsOwnedBy seat (cell_at new l) → ⊥) → IsFramedAt seat old new l

-- each location, and no cell is lost
pub record IsFramed (seat : ℕ) (old new : Heap) : Type 0 where
  pub places : (l : ℕ) → IsFramedAt seat old new l
  pub longer : length old.cells ≤ length new.cells
