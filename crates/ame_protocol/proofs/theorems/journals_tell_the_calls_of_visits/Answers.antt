use Rattle.ame_protocol.proofs.Visits.CallLemmas.{silent-entry, silent-visit, told-call}
use Rattle.ame_protocol.proofs.theorems.journals_tell_the_calls_of_visits.Goals as goal

pub returns-clause-call : goal.returns-clause-call
returns-clause-call c = λ parts seat attempt n p k device argument answer s task ran at_it.
    told-call parts s k seat attempt task n device argument answer p ran at_it

pub returns-clause-none : goal.returns-clause-none
returns-clause-none c = λ parts seat number n p inside memory k s none. silent-visit parts s k seat number n p inside memory none

pub returns-clause-others : goal.returns-clause-others
returns-clause-others c = λ parts entry k s none. silent-entry parts s k entry none
