use Rattle.ame_laws.proofs.Complete.{unique}
use Rattle.ame_laws.proofs.theorems.types_are_unique.Goals as goal

pub returns : goal.returns
returns c = λ signature cells g q e t u h k. unique signature cells h k
