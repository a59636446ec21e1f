use Rattle.ame_laws.proofs.PutsLemmas.{put_is, is_put}
use Rattle.ame_laws.proofs.theorems.substitution_puts.Goals as goal

pub returns : goal.returns
returns c = λ x w t u. (put_is x w t u, is_put x w t u)
