use Rattle.ame_certified.proofs.JudgedLemmas.{judged-valid}
use Rattle.ame_certified.proofs.judged.journals_are_judged_valid.Goals as goal

pub returns : goal.returns
returns c = judged-valid
