use Rattle.ame_certified.proofs.EndedLemmas.{acts-low}
use Rattle.ame_certified.proofs.ended.bases_stay_low.Goals as goal

pub returns : goal.returns
returns c = acts-low
