use Rattle.ame_engine.proofs.VisitEndLemmas.{sent-shown, sent-rests}
use Rattle.ame_engine.proofs.engine.free.home.send_home.Goals as goal

pub returns-clause-shown : goal.returns-clause-shown
returns-clause-shown g c = λ code.
    sent-shown g.M.Runner.meaning.is_machine g.M.Runner.meaning.stage code c.args.number c.args.pool.now c.replace.new.self c.args.at c.settle.new.self c.inside-inside.result
    (c.inside-inside.ensures code) (c.settle.ensures.stage code) c.replace.ensures

pub returns-clause-rests : goal.returns-clause-rests
returns-clause-rests g c = λ code machine there all.
    sent-rests g.M.Runner.meaning.is_machine g.M.Runner.meaning.stage code c.args.number c.args.pool.now c.replace.new.self c.args.at c.settle.new.self c.inside-inside.result
    (c.inside-inside.ensures code) (c.settle.ensures.stage code) c.replace.ensures there (c.settle.ensures.machine code machine) all
