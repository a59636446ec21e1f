use Rattle.ame_laws.proofs.StandingLemmas.{some_decomposition, not_both, one_context}
use Rattle.ame_laws.proofs.theorems.one_decomposition.Goals as goal

pub returns-clause-some : goal.returns-clause-some
returns-clause-some c = some_decomposition

pub returns-clause-not_both : goal.returns-clause-not_both
returns-clause-not_both c = not_both

pub returns-clause-unique : goal.returns-clause-unique
returns-clause-unique c = one_context
