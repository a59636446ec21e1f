use Rattle.ame_check.proofs.JudgeLemmas.{CountsSteps}
use Rattle.ame_check.proofs.judging.too_long.Given as goal

abbrev pub invariant-loop-entry : goal.invariant-loop-entry
invariant-loop-entry l = CountsSteps l.entries l.total l.place l.entry-index
