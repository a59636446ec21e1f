use Rattle.ame_pool.proofs.IndexLemmas.{HasAdded}
use Rattle.ame_pool.proofs.index.watch.Given as goal

abbrev pub invariant-loop-l : goal.invariant-loop-l
invariant-loop-l l = HasAdded l.fn.number l.fn.index l.fn.locs l.l-index l.index
