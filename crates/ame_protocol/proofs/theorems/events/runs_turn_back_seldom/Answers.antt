use Rattle.ame_protocol.proofs.Event.RefusalLemmas.{run-refused, run-backs}
use Rattle.ame_protocol.proofs.theorems.events.runs_turn_back_seldom.Goals as goal

pub returns-clause-counted : goal.returns-clause-counted
returns-clause-counted c = run-refused

pub returns-clause-few : goal.returns-clause-few
returns-clause-few c = run-backs
