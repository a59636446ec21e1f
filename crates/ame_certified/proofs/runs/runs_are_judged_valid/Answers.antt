use Rattle.ame_certified.proofs.RunLemmas.{run-valid}
use Rattle.ame_certified.proofs.runs.runs_are_judged_valid.Goals as goal

pub returns : goal.returns
returns c = run-valid
