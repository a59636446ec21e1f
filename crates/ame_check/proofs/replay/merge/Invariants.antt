-- The cells, with the values that are set.
use Rattle.std.proofs.Common.{◌≡◌, ℕ, length}
use Rattle.ame_term.specs.Maps.{at}
use Rattle.ame_journal.specs.Replay.{or_else}
use Rattle.ame_check.proofs.replay.merge.Given as goal

abbrev pub invariant-loop-l : goal.invariant-loop-l
invariant-loop-l g l = (k : ℕ) → or_else (at l.overlay.entries k) (at l.cells.entries k) ≡ or_else (at l.initial.overlay.entries k) (at l.initial.cells.entries k)

abbrev pub decreases-loop-l : goal.decreases-loop-l
decreases-loop-l g l = length l.overlay.entries
