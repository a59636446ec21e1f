use Rattle.std.proofs.Common.{length}
use Rattle.ame_labels.proofs.LedgerLemmas.{IsCountedSoFar}
use Rattle.ame_labels.proofs.entry_count.EntryCount.pass_tries.Given as goal

abbrev pub invariant-loop-t : goal.invariant-loop-t
invariant-loop-t l = IsCountedSoFar l.n l.tries l.rest l.fn.self l.self

abbrev pub decreases-loop-t : goal.decreases-loop-t
decreases-loop-t l = length l.rest
