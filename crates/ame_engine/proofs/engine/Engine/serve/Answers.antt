use Rattle.std.proofs.Common.{◌≡◌, false, Some, sym, ap, ◌∙◌, rules, arith}
use Rattle.ame_machine.specs.Acting.{takes_input}
use Rattle.ame_engine.proofs.VisitStepLemmas.{served-left}
use Rattle.ame_engine.proofs.engine.Engine.serve.Goals as goal

pub returns-in_default : goal.returns-in_default
returns-in_default g c =
    served-left g.M.Runner.meaning c.args.self.now c.args.at.now
    c.requires.on.1.machine (ap takes_input (sym (c.want.ensures c.args.self.now.code) ∙ c.in_default.is))

pub returns-in-Block : goal.returns-in-Block
returns-in-Block g c =
    let still : takes_input (Some c.in-Some.want) ≡ false = first_of (search rules, grind arith) in
    served-left g.M.Runner.meaning c.args.self.now c.args.at.now
    c.requires.on.1.machine (ap takes_input (sym (c.want.ensures c.args.self.now.code) ∙ c.in-Some.is) ∙ still)
