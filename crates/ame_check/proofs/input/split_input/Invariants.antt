use Rattle.ame_check.proofs.InputLemmas.{HasNoneBefore}
use Rattle.ame_check.proofs.input.split_input.Given as goal

abbrev pub invariant-loop-at : goal.invariant-loop-at
invariant-loop-at l = HasNoneBefore l.bytes l.at
