use Rattle.ame_engine.proofs.BeginLemmas.{finished-cause, spent-cause, outside-cause, parked-met, blocked-going}
use Rattle.ame_protocol.proofs.Event.BoundLemmas.{outside-leaves}
use Rattle.ame_engine.proofs.engine.Engine.stops_have_causes.Goals as goal

pub returns-clause-finished : goal.returns-clause-finished
returns-clause-finished g c =
    finished-cause g.M.Runner.meaning
    _ c.args.self.now c.self.view_is c.self.invariant.whole

pub returns-clause-spent : goal.returns-clause-spent
returns-clause-spent g c =
    spent-cause g.M.Runner.meaning
    _ c.args.self.now c.self.view_is c.self.invariant.whole

pub returns-clause-parked : goal.returns-clause-parked
returns-clause-parked g c =
    parked-met g.M.Runner.meaning
    _ c.args.self.now c.self.view_is c.self.invariant.whole

pub returns-clause-going : goal.returns-clause-going
returns-clause-going g c =
    blocked-going g.M.Runner.meaning
    _ c.args.self.now c.self.view_is c.self.invariant.whole

pub returns-clause-outside : goal.returns-clause-outside
returns-clause-outside g c =
    outside-cause g.M.Runner.meaning
    _ c.args.self.now c.self.view_is c.self.invariant.whole

pub returns-clause-leaves : goal.returns-clause-leaves
returns-clause-leaves g c = λ why e. outside-leaves why _ e
