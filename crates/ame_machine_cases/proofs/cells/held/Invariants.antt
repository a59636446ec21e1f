use Rattle.std.proofs.Common.{◌≤◌, length}
use Rattle.ame_machine_cases.proofs.cells.held.Given as goal

abbrev pub invariant-loop-n : goal.invariant-loop-n
invariant-loop-n l = l.n ≤ length l.cells

abbrev pub decreases-loop-n : goal.decreases-loop-n
decreases-loop-n l = l.n
