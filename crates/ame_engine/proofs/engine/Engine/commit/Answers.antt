use Rattle.ame_engine.proofs.engine.Engine.commit.Goals as goal

pub returns-in-Some-clause-back : goal.returns-in-Some-clause-back
returns-in-Some-clause-back g c = λ attempt bad task _. c.turn_back.ensures attempt task
