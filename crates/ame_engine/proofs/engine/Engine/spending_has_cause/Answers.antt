use Rattle.ame_engine.proofs.LastLemmas.{spent-kept, spent-leaves}
use Rattle.ame_engine.proofs.engine.Engine.spending_has_cause.Goals as goal

pub returns-clause-cause : goal.returns-clause-cause
returns-clause-cause g c =
    spent-kept g.M.Runner.meaning
    _ c.args.self.now c.self.view_is c.self.invariant.whole c.args.seat
    c.requires.busy c.requires.used_up

pub returns-clause-leaves : goal.returns-clause-leaves
returns-clause-leaves g c =
    spent-leaves g.M.Runner.meaning
    _ c.args.self.now c.self.view_is c.self.invariant.whole c.args.seat
    c.requires.busy c.requires.used_up c.requires.stuck
