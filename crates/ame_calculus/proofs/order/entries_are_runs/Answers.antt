use Rattle.ame_journal.proofs.ReachedLemmas.{calm-replayed}
use Rattle.ame_calculus.proofs.OfRunLemmas.{of-run}
use Rattle.ame_calculus.proofs.order.entries_are_runs.Goals as goal

pub returns : goal.returns
returns c = λ program front entry r s before replayed plain. of-run r (calm-replayed program front r before) entry s replayed plain
