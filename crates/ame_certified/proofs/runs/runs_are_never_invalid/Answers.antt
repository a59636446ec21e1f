use Rattle.ame_certified.proofs.RunLemmas.{run-never_invalid}
use Rattle.ame_certified.proofs.runs.runs_are_never_invalid.Goals as goal

pub returns : goal.returns
returns c = run-never_invalid
