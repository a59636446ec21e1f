use Rattle.ame_certified.proofs.WeakJournals.{labels-valid, tries-valid, noted-valid}
use Rattle.ame_certified.proofs.weak.weak_journals_are_judged_valid.Goals as goal

pub returns-clause-alone : goal.returns-clause-alone
returns-clause-alone c = λ signature program labels w judged accepted run idle within is. labels-valid signature program labels w accepted run within judged idle is

pub returns-clause-tries : goal.returns-clause-tries
returns-clause-tries c = λ signature program labels tries w judged accepted run idle within tried low is.
    tries-valid signature program labels w accepted run within tries tried low judged idle is

pub returns-clause-noted : goal.returns-clause-noted
returns-clause-noted c = λ signature program labels tries w entry judged accepted run within tried low idle note is.
    noted-valid signature program labels w accepted run within tries tried low idle entry note judged is
