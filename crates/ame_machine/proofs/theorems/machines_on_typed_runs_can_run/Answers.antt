use Rattle.ame_machine.proofs.RunnableLemmas.{runs-typed}
use Rattle.ame_machine.proofs.theorems.machines_on_typed_runs_can_run.Goals as goal

pub returns : goal.returns
returns c = runs-typed
