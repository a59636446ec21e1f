use Rattle.ame_engine.proofs.RunLemmas.{can-run}
use Rattle.ame_shell.proofs.theorems.machines_on_their_seats_can_run.Goals as goal

pub returns : goal.returns
returns c = λ parts seat s stands on outside. can-run parts stands seat s on outside
