use Rattle.std.proofs.Common.{◌≡◌, ◌≤◌, length, sym, ◌∙◌, subst}
use Rattle.std.specs.Arc.{arc_value}
use Rattle.ame_engine.specs.Makes.{state_of}
use Rattle.ame_engine.specs.Seen.{parts_of}
use Rattle.ame_protocol.specs.Engine.Events.{started}
use Rattle.ame_protocol.specs.Event.EngineState.{started_state}
use Rattle.ame_shell.proofs.OverLemmas.{shell-starts}
use Rattle.ame_sim.proofs.CrewLemmas.{crew-starts}
use Rattle.ame_sim.proofs.crew.Crew.open.Goals as goal

pub invariant_of-result : goal.invariant_of-result
invariant_of-result g c =
    let r = g.M.Runner.meaning in
    let code = c.in-Ok-start.ensures.code ∙ c.in-Ok-try_clone.ensures in
    let starts = subst (λ k. parts_of r c.in-Ok-start.engine ≡ started (r.program k) (r.signature k) c.args.limits 0) c.in-Ok-try_clone.ensures c.in-Ok-start.ensures.parts in
    let enough = subst (λ k. (r.signature k).devices ≤ length c.args.io.ends.told) (sym code) c.requires.devices in
    crew-starts r c.in-Ok-start.engine (arc_value c.args.code) c.in-Ok.hands.items c.args.limits c.args.io.ends (sym code) starts c.in-Ok.ensures enough
    c.requires.limits

pub returns-clause-starts : goal.returns-clause-starts
returns-clause-starts g c =
    let r = g.M.Runner.meaning in
    subst (λ k. state_of r c.in-Ok-start.engine ≡ started_state (r.program k) (r.signature k) c.args.limits) c.in-Ok-try_clone.ensures c.in-Ok-start.ensures.state

pub returns-clause-opens : goal.returns-clause-opens
returns-clause-opens g c =
    let r = g.M.Runner.meaning in
    let code = c.in-Ok-start.ensures.code ∙ c.in-Ok-try_clone.ensures in
    let starts = subst (λ k. parts_of r c.in-Ok-start.engine ≡ started (r.program k) (r.signature k) c.args.limits 0) c.in-Ok-try_clone.ensures c.in-Ok-start.ensures.parts in
    shell-starts r c.in-Ok-start.engine (arc_value c.args.code) c.args.limits c.args.io.ends code starts (returns-clause-starts g c)
