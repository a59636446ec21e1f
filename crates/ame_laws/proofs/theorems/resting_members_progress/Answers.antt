use Rattle.ame_laws.proofs.Typed.Progressed.{resting_progresses}
use Rattle.ame_laws.proofs.theorems.resting_members_progress.Goals as goal

pub returns : goal.returns
returns c = λ signature cells s i term typed member idle. resting_progresses signature cells s typed i term member idle
