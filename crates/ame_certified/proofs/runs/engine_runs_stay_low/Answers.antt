use Rattle.ame_certified.proofs.RunLemmas.{run-low, started-low}
use Rattle.ame_certified.proofs.runs.engine_runs_stay_low.Goals as goal

pub returns-clause-stay : goal.returns-clause-stay
returns-clause-stay c = λ s end events sound run goes low. run-low events s end sound run goes low

pub returns-clause-started : goal.returns-clause-started
returns-clause-started c = started-low
