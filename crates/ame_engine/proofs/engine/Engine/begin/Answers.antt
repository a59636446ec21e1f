use Rattle.std.proofs.Common.{◌≡◌, Option, ap, sym, ◌∙◌, subst, refl}
use Rattle.std.specs.Prelude.{unwrap_or}
use Rattle.ame_protocol.specs.declared.stop.Stop.{Stop}
use Rattle.ame_protocol.specs.Event.Event.{Event}
use Rattle.ame_engine.specs.declared.pick.Pick.{Pick}
use Rattle.ame_engine.specs.Begins.{pick_of, stop_met}
use Rattle.ame_engine.specs.Makes.{Makes}
use Rattle.ame_engine.proofs.BeginLemmas.{none-met}
use Rattle.ame_engine.proofs.HaltLemmas.{makes-halted, makes-blocked_halt}
use Rattle.ame_engine.proofs.engine.Engine.begin.Goals as goal

pub returns-in_ok-keep_blocked-in-Blocked-clause-halts : goal.returns-in_ok-keep_blocked-in-Blocked-clause-halts
returns-in_ok-keep_blocked-in-Blocked-clause-halts g c = λ why is.
    let met : pick_of c.args.self.now ≡ Pick.Blocked = sym c.pick.ensures.pick ∙ c.in-Blocked.is in
    subst (λ (w : Stop). Makes g.M.Runner.meaning (Event.Halt w) c.args.self.now c.keep_blocked.new.self)
    (ap (λ (o : Option Stop). unwrap_or o Stop.Blocked) (ap stop_met (sym met) ∙ is))
    (makes-blocked_halt g.M.Runner.meaning c.args.self.now c.keep_blocked.new.self (c.stops_have_causes.ensures.going met) c.in_ok-keep_blocked-in-Blocked.ensures.ok
    (c.stops_have_causes.ensures.parked met))

pub returns-in-Spent-clause-halts : goal.returns-in-Spent-clause-halts
returns-in-Spent-clause-halts g c = λ why is.
    let met : pick_of c.args.self.now ≡ Pick.Spent = sym c.pick.ensures.pick ∙ c.in-Spent.is in
    let going = none-met c.args.self.now Pick.Spent met (λ e. let clash : Pick.Stopped ≡ Pick.Spent = e in cc) in
    subst (λ (w : Stop). Makes g.M.Runner.meaning (Event.Halt w) c.args.self.now c.keep-in-Spent.new.self)
    (ap (λ (o : Option Stop). unwrap_or o Stop.Spent) (ap stop_met (sym met) ∙ is))
    (makes-halted g.M.Runner.meaning c.args.self.now c.keep-in-Spent.new.self going Stop.Spent c.keep-in-Spent.ensures
    refl (c.stops_have_causes.ensures.spent met) c.idle_seats_leave_no_try.ensures)
