use Rattle.ame_laws.proofs.FrameLemmas.{focused, filled, found}
use Rattle.ame_laws.proofs.StandingLemmas.{value_focus}
use Rattle.ame_laws.proofs.theorems.contexts_are_focus.Goals as goal

pub returns-clause-value : goal.returns-clause-value
returns-clause-value c = value_focus

pub returns-clause-focused : goal.returns-clause-focused
returns-clause-focused c = focused

pub returns-clause-filled : goal.returns-clause-filled
returns-clause-filled c = filled

pub returns-clause-found : goal.returns-clause-found
returns-clause-found c = found
