-- The members so far have joined.
use Rattle.std.proofs.Common.{length}
use Rattle.ame_engine.proofs.ResumedMembers.{Gathers}
use Rattle.ame_engine.proofs.engine.resume.members.pool_of.Given as goal

abbrev pub invariant-loop-number : goal.invariant-loop-number
invariant-loop-number g l = Gathers g.M.Runner.meaning.stage l._code l.initial.members.entries l.members.entries l.pool

abbrev pub decreases-loop-number : goal.decreases-loop-number
decreases-loop-number g l = length l.members.entries
