use Rattle.ame_check.proofs.OnceLemmas.{judged-once}
use Rattle.ame_check.proofs.theorems.journals_are_judged_in_one_way.Goals as goal

pub returns : goal.returns
returns c = judged-once
