use Rattle.ame_laws.proofs.Typed.Progressed.{active_progresses, waiting_stays}
use Rattle.ame_laws.proofs.theorems.active_members_progress.Goals as goal

pub returns-clause-goes_on : goal.returns-clause-goes_on
returns-clause-goes_on c = λ signature cells s i term typed member is. active_progresses signature cells s typed i term member is

pub returns-clause-stuck : goal.returns-clause-stuck
returns-clause-stuck c = λ signature cells s i term typed member is waits label. waiting_stays signature cells s typed i term member is waits label
