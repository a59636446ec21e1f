use Rattle.ame_laws.proofs.NamesLemmas.{substitute-substitute}
use Rattle.ame_laws.proofs.theorems.substitutions_commute.Goals as goal

pub returns : goal.returns
returns c = λ x y t v w differ. substitute-substitute x y v w differ t
