use Rattle.std.proofs.Common.{length}
use Rattle.ame_journal.proofs.TextLemmas.{IsUnderWay}
use Rattle.ame_journal.proofs.journal.Journal.from_text.Given as goal

abbrev pub invariant-loop-rest : goal.invariant-loop-rest
invariant-loop-rest l = IsUnderWay l.text l.journal.entries l.rest

abbrev pub decreases-loop-rest : goal.decreases-loop-rest
decreases-loop-rest l = length l.rest
