use Rattle.ame_pool.proofs.IndexLemmas.{HasDropped}
use Rattle.ame_pool.proofs.index.unwatch.Given as goal

abbrev pub invariant-loop-l : goal.invariant-loop-l
invariant-loop-l l = HasDropped l.fn.number l.fn.index l.fn.gone l.fn.kept l.l-index l.index
