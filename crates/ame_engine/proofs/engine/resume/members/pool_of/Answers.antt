use Rattle.std.proofs.Common.{◌≡◌, false, true}
use Rattle.ame_engine.proofs.ResumedMembers.{gathers-more, gathered, is-absent}
use Rattle.ame_engine.proofs.engine.resume.members.pool_of.Goals as goal

pub add-requires-clause-fresh : goal.add-requires-clause-fresh
add-requires-clause-fresh g c =
    is-absent g.M.Runner.meaning.stage c.args._code.now c.args.members.entries c.loop-number.members.entries c.pop_first.new.self.entries c.loop-number.pool c.len.ensures.ordered
    c.loop-number.invariant c.in-Some.number c.in-Some.machine c.in-Some.ensures.removal

pub loop-number-preserved : goal.loop-number-preserved
loop-number-preserved g c =
    gathers-more g.M.Runner.meaning.stage c.args._code.now c.args.members.entries c.loop-number.members.entries c.pop_first.new.self.entries c.loop-number.pool c.len.ensures.ordered
    c.loop-number.invariant c.in-Some.number c.in-Some.machine c.in-Some.ensures.removal c.inside-inside.result c.add.new.self (c.inside-inside.ensures c.args._code.now) c.add.ensures

pub returns : goal.returns
returns g c =
    gathered g.M.Runner.meaning.stage c.args._code.now c.args.members.entries c.loop-number.members.entries c.loop-number.pool c.len.ensures.ordered c.loop-number.invariant
    (λ some. let clash : false ≡ true = c.in_default.ensures.variant.1 some in cc)
