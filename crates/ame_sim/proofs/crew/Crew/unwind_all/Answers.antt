use Rattle.std.proofs.Common.{sym, ap, ◌∙◌, subst, arith}
use Rattle.ame_protocol.specs.declared.types.Limits.{Limits}
use Rattle.ame_protocol.specs.Engine.Simulates.{Simulates}
use Rattle.ame_engine.specs.Seen.{parts_of}
use Rattle.ame_sim.proofs.UnwindLemmas.{all-idle}
use Rattle.ame_sim.proofs.crew.Crew.unwind_all.Goals as goal

pub returns-clause-idle : goal.returns-clause-idle
returns-clause-idle g c =
    let was = c.loop-seat.invariant in
    let last = c.limits.result.now.seats in
    let seats = ap (λ (l : Limits). l.seats) (was.unwound.limits ∙ sym (ap (λ v. v.core.limits) c.self.view_is) ∙ sym c.limits.ensures) in
    all-idle g.M.Runner.meaning c.loop-seat.self.core last (subst (λ v. Simulates (parts_of g.M.Runner.meaning v.core)) c.self-2.view_is c.stands.ensures) seats
    (λ seat within. was.idle seat (let past = c.loop-seat-test.false in omega (arith, past, within)))
