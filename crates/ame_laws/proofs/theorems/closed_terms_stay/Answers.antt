use Rattle.ame_laws.proofs.NamesLemmas.{substitute-unfree}
use Rattle.ame_laws.proofs.theorems.closed_terms_stay.Goals as goal

pub returns-clause-not_free : goal.returns-clause-not_free
returns-clause-not_free c = λ x t w e. substitute-unfree t x w e

pub returns-clause-closed : goal.returns-clause-closed
returns-clause-closed c = λ x t w closed. substitute-unfree t x w (closed x)
