use Rattle.std.proofs.Common.{subst}
use Rattle.ame_sim.specs.Crew.{SomeSeatIsAtWork}
use Rattle.ame_sim.proofs.CrewLemmas.{waits-for-seat}
use Rattle.ame_sim.proofs.crew.Crew.who_waits_waits_for_a_seat.Goals as goal

pub returns : goal.returns
returns g c =
    subst (λ v. SomeSeatIsAtWork v.core) c.self.view_is
    (waits-for-seat g.M.Runner.meaning c.self.inside.shell.engine c.stands.ensures c.busy_members_are_seated.ensures c.members_are_rolled_back_seldom.ensures.rising
    c.who_waits_waits_for_somebody.ensures.busy)
