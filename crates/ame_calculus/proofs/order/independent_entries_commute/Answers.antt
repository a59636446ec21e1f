use Rattle.ame_journal.proofs.ReachedLemmas.{calm-replayed}
use Rattle.ame_calculus.proofs.CommuteLemmas.{may-swap}
use Rattle.ame_calculus.proofs.SwappedJournal.{journal-swapped}
use Rattle.ame_calculus.proofs.order.independent_entries_commute.Goals as goal

pub returns-clause-neighbours : goal.returns-clause-neighbours
returns-clause-neighbours c = λ program front a b r s t before m one two.
    let x = may-swap r s t a b (calm-replayed program front r before) m one two in
    (x.between, x.behind, x.first, x.second, x.state, x.inside)

pub returns-clause-certificates : goal.returns-clause-certificates
returns-clause-certificates c = λ program front behind a b r t before m e.
    let x = journal-swapped program front behind a b r t before m e in
    (x.0, x.1, x.2)

pub returns-clause-calls : goal.returns-clause-calls
returns-clause-calls c = λ program front behind a b r t device before m e. (journal-swapped program front behind a b r t before m e).3 device
