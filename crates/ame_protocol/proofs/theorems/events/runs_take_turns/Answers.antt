use Rattle.ame_protocol.proofs.Event.RunLemmas.{run-counts, run-few}
use Rattle.ame_protocol.proofs.theorems.events.runs_take_turns.Goals as goal

pub returns-clause-few : goal.returns-clause-few
returns-clause-few c = run-few

pub returns-clause-going : goal.returns-clause-going
returns-clause-going c = run-counts

pub returns-clause-counted : goal.returns-clause-counted
returns-clause-counted c = λ s h. h.counters.all
