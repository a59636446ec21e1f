-- The new members that are left do to the pool now what all of them do to the one before.
use Rattle.ame_engine.proofs.JoinLemmas.{Joining}
use Rattle.ame_engine.proofs.engine.commit.members.join_all.Given as goal

abbrev pub invariant-loop-number : goal.invariant-loop-number
invariant-loop-number g l = Joining g.M.Runner.meaning.is_machine g.M.Runner.meaning.stage l.fn.first l.end l.fn.pool l.fn.at l.number l.pool l.at
