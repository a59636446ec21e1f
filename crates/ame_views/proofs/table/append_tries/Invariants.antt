use Rattle.std.proofs.Common.{length}
use Rattle.ame_views.specs.Starters.{starter_in}
use Rattle.ame_views.proofs.RowLemmas.{AreTriesSoFar}
use Rattle.ame_views.proofs.table.append_tries.Given as goal

abbrev pub invariant-loop-t : goal.invariant-loop-t
invariant-loop-t l = AreTriesSoFar l.number (starter_in l.starters) l.tries l.rest l.fn.page l.page

abbrev pub decreases-loop-t : goal.decreases-loop-t
decreases-loop-t l = length l.rest
