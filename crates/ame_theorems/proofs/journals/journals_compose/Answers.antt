use Rattle.ame_theorems.proofs.JournalLemmas.{composed, unfolded-two}
use Rattle.ame_theorems.proofs.journals.journals_compose.Goals as goal

pub returns-clause-replayed : goal.returns-clause-replayed
returns-clause-replayed c = composed

pub returns-clause-unfolded : goal.returns-clause-unfolded
returns-clause-unfolded c = unfolded-two
