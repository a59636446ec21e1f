use Rattle.ame_runner.proofs.TotalLemmas.{turns-told}
use Rattle.ame_runner.proofs.theorems.turns_are_told.Goals as goal

pub returns : goal.returns
returns c = turns-told
