-- The cells and the logs of a shared memory fit each other.
use Rattle.std.specs.Prelude.{ℕ, ◌<◌, length, All}
use Rattle.ame_rows.specs.MemoryView.{MemoryView, row_at}
use Rattle.ame_rows.specs.Entries.{IsLogOf}

-- the undo logs say who owns which cell, and each read that was logged is of a cell that is there
pub record IsConsistent {V : Type 0} (contents : MemoryView V) : Type 0 where
  pub logs : (seat : ℕ) → IsLogOf seat contents.cells (row_at contents.rows seat).undos
  pub reads : (seat : ℕ) → All (λ note. note.loc.0 < length contents.cells) (row_at contents.rows seat).reads
