use Rattle.std.proofs.Common.{sym, subst}
use Rattle.std.specs.Arc.{arc_value}
use Rattle.ame_protocol.specs.declared.stop.Stop.{Stop}
use Rattle.ame_shell.specs.Shell.{shell_view, IsShell}
use Rattle.ame_shell.proofs.OverLemmas.{lacking-keeps}
use Rattle.ame_sim.specs.Crew.{IsCrew}
use Rattle.ame_sim.proofs.CrewLemmas.{crew-stopped}
use Rattle.ame_sim.proofs.crew.Crew.give_up.Goals as goal

pub invariant_of-self : goal.invariant_of-self
invariant_of-self g c =
    let shell = shell_view c.self.inside.shell in
    subst (λ core. IsCrew g.M.Runner.meaning (arc_value c.self.inside.code) (record shell { core = core }) c.self.inside.hands.items)
    (sym c.stop.ensures.stops) (crew-stopped g.M.Runner.meaning Stop.NoMemory _ shell _ c.self.invariant)

pub returns-clause-keeps : goal.returns-clause-keeps
returns-clause-keeps g c = λ opening h.
    let r = g.M.Runner.meaning in
    let before = shell_view c.self.inside.shell in
    subst (λ core. IsShell r opening (record before { core = core })) (sym c.stop.ensures.stops)
    (lacking-keeps r opening before (subst (λ v. IsShell r opening v) (sym c.self.view_is) h))
