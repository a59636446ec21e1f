use Rattle.ame_theorems.proofs.JournalLemmas.{cut-replayed, cut-unfolded, cut-some}
use Rattle.ame_theorems.proofs.journals.prefixes_replay.Goals as goal

pub returns-clause-replayed : goal.returns-clause-replayed
returns-clause-replayed c = cut-replayed

pub returns-clause-unfolded : goal.returns-clause-unfolded
returns-clause-unfolded c = λ r t entries more labels u.
    let x = cut-unfolded r t entries more labels u in
    (x.between, x.first, x.rest, x.before, x.later, x.is)

pub returns-clause-cut : goal.returns-clause-cut
returns-clause-cut c = cut-some
