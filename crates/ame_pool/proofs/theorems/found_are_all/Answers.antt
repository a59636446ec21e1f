use Rattle.ame_pool.proofs.MemberLemmas.{rising_same}
use Rattle.ame_pool.proofs.theorems.found_are_all.Goals as goal

pub returns : goal.returns
returns g c = λ ms os r s h. rising_same ms os r s h
