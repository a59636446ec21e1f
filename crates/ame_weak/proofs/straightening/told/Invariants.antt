use Rattle.ame_term.specs.View.{tree_of}
use Rattle.ame_weak.specs.View.{weak_of}
use Rattle.ame_weak.proofs.StraightenedLemmas.{IsOnTheWay}
use Rattle.ame_weak.proofs.straightening.told.Given as goal

abbrev pub invariant-loop-n : goal.invariant-loop-n
invariant-loop-n l = IsOnTheWay (tree_of l.accepted.program.term) l.labels l.tries l.n (weak_of l.state) l.transcript l.rest
