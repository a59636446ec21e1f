use Rattle.ame_certified.proofs.WeakJournals.{labels-low, tries-low, noted-low}
use Rattle.ame_certified.proofs.weak.weak_journals_stay_low.Goals as goal

pub returns-clause-alone : goal.returns-clause-alone
returns-clause-alone c = labels-low

pub returns-clause-tries : goal.returns-clause-tries
returns-clause-tries c = λ signature program labels tries w accepted run within. tries-low signature program labels w accepted run within tries

pub returns-clause-noted : goal.returns-clause-noted
returns-clause-noted c = λ signature program labels tries w entry accepted run within tried low idle note.
    noted-low signature program labels w accepted run within tries tried low idle entry note
