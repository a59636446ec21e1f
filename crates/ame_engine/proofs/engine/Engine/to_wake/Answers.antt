use Rattle.std.proofs.Common.{arith}
use Rattle.ame_engine.proofs.CommitLemmas.{owned-wake, nobody-wakes}
use Rattle.ame_engine.proofs.engine.Engine.to_wake.Goals as goal

pub returns-then-not-is_watched : goal.returns-then-not-is_watched
returns-then-not-is_watched g c =
    nobody-wakes g.M.Runner.meaning
    _ c.args.self.now c.self.view_is c.self.invariant.whole c.args.seat
    c.new.result.items c.new.ensures.items (c.is_watched.ensures (grind (arith, c.if-not-is_watched.true)))

pub returns : goal.returns
returns g c =
    owned-wake g.M.Runner.meaning
    _ c.args.self.now c.self.view_is c.self.invariant.whole c.args.seat c.in_ok-owned.owned.items c.in_ok-owned.ensures.same c.in_ok-owned.ensures.rising
