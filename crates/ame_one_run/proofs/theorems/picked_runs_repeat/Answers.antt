use Rattle.ame_one_run.proofs.RepeatLemmas.{seats-repeat, seeds-repeat, schedules-repeat}
use Rattle.ame_one_run.proofs.theorems.picked_runs_repeat.Goals as goal

pub returns-clause-seats : goal.returns-clause-seats
returns-clause-seats c = seats-repeat c.spells_one_command.ensures

pub returns-clause-seed : goal.returns-clause-seed
returns-clause-seed c = seeds-repeat c.spells_one_command.ensures

pub returns-clause-schedule : goal.returns-clause-schedule
returns-clause-schedule c = schedules-repeat c.spells_one_command.ensures
