use Rattle.ame_theorems.proofs.RowLemmas.{row-under-way, row-at-unprotected}
use Rattle.ame_theorems.proofs.doomed.valid_rows_are_fragments.Goals as goal

pub returns-clause-under_way : goal.returns-clause-under_way
returns-clause-under_way c = λ s r seat attempt n p h there task place. row-under-way s.parts h.stands r seat attempt n p there task place

pub returns-clause-at_unprotected : goal.returns-clause-at_unprotected
returns-clause-at_unprotected c = λ s r seat attempt n p h there task place. row-at-unprotected s.parts h.stands r seat attempt n p there task place
