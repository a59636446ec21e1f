use Rattle.ame_engine.proofs.BeginLemmas.{idle-leaves}
use Rattle.ame_engine.proofs.engine.Engine.idle_seats_leave_no_try.Goals as goal

pub returns : goal.returns
returns g c =
    idle-leaves g.M.Runner.meaning
    _ c.args.self.now c.self.view_is c.self.invariant.whole c.args.seat c.requires.seat c.requires.idle
