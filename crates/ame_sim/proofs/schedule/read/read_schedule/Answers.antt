use Rattle.ame_sim.proofs.TextLemmas.{no_program}
use Rattle.ame_sim.proofs.schedule.read.read_schedule.Goals as goal

pub returns-in-None-clause-err : goal.returns-in-None-clause-err
returns-in-None-clause-err c = no_program _ _ _ _ c.in-Some.ensures c.in_ok-picks.ensures c.in-None.ensures
