use Rattle.std.proofs.Common.{◌≡◌, Some, ◌∙◌}
use Rattle.ame_machine.specs.declared.wants.Wants.TheVariants as wants
use Rattle.ame_engine.proofs.CrewLemmas.{left-shown, left-rests, gone-rests}
use Rattle.ame_engine.proofs.engine.commit.members.send_on.Goals as goal

pub returns-in-Some-Leave-clause-left : goal.returns-in-Some-Leave-clause-left
returns-in-Some-Leave-clause-left g c = λ code leaves.
    left-shown g.M.Runner.meaning.is_machine g.M.Runner.meaning.stage code c.args.number c.args.pool.now c.replace.new.self c.args.at c.settle.new.self
    (c.settle.ensures.stage code) c.replace.ensures

pub returns-in-Some-Leave-clause-rests : goal.returns-in-Some-Leave-clause-rests
returns-in-Some-Leave-clause-rests g c = λ code machine all.
    let told = c.want.ensures code in
    let leaves : (g.M.Runner.meaning.stage code c.args.at).want ≡ Some wants.Leave = cc in
    left-rests g.M.Runner.meaning.is_machine g.M.Runner.meaning.stage code c.args.number c.args.pool.now c.replace.new.self c.args.at c.settle.new.self
    (c.settle.ensures.stage code) c.replace.ensures leaves (c.settle.ensures.machine code machine) all

pub returns-in_default-clause-rests : goal.returns-in_default-clause-rests
returns-in_default-clause-rests g c = λ code machine all.
    gone-rests g.M.Runner.meaning.is_machine g.M.Runner.meaning.stage code c.args.number c.args.pool.now c.keep_spare.new.self (c.keep_spare.ensures ∙ c.remove.ensures.pool) all
