use Rattle.ame_laws.proofs.Complete.{complete}
use Rattle.ame_laws.proofs.theorems.table_gives_what_is_had.Goals as goal

pub returns : goal.returns
returns c = λ signature cells places g q i e t h. complete signature cells h places i
