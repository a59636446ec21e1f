use Rattle.std.proofs.Common.{subst}
use Rattle.ame_protocol.specs.Event.Seated.{AreSeated}
use Rattle.ame_engine.specs.Seen.{parts_of}
use Rattle.ame_engine.proofs.engine.Engine.busy_members_are_seated.Goals as goal

pub returns : goal.returns
returns g c = subst (λ x. AreSeated (parts_of g.M.Runner.meaning x)) c.self.view_is c.self.invariant.whole.state.seated
