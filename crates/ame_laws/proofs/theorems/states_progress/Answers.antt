use Rattle.ame_laws.proofs.Typed.Progressed.{state_progresses}
use Rattle.ame_laws.proofs.theorems.states_progress.Goals as goal

pub returns : goal.returns
returns c = state_progresses
