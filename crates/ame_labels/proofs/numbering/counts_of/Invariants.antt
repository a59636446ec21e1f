use Rattle.ame_labels.proofs.LedgerLemmas.{AreCountsTo}
use Rattle.ame_labels.proofs.numbering.counts_of.Given as goal

abbrev pub invariant-loop-n : goal.invariant-loop-n
invariant-loop-n l = AreCountsTo l.labels l.tries l.n l.rest l.ledger l.counts.items
