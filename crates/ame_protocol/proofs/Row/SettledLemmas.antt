-- Cells of a seat without undos.
use Rattle.std.proofs.Common.{ℕ, ◌<◌, [], arith}
use Rattle.ame_store.specs.Cells.{IsOwnedBy}
use Rattle.ame_protocol.specs.Row.Heap.{Heap, cell_at}
use Rattle.ame_protocol.specs.Row.UndoLog.{IsUndoLog}

-- a seat that has nothing to undo owns nothing
pub nothing-owned : (heap : Heap) (seat : ℕ) → IsUndoLog heap seat [] → (l : ℕ) → IsOwnedBy seat (cell_at heap l) → ⊥
nothing-owned heap seat log l own = let there = log.named l own in absurd (let below : there.0 < 0 = there.1 in omega arith)
