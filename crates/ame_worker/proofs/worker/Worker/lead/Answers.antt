use Rattle.std.proofs.Common.{inl, sym, ap, ◌∙◌, subst}
use Rattle.std.specs.Arc.{arc_value}
use Rattle.ame_protocol.specs.declared.types.Limits.{Limits}
use Rattle.ame_shell.specs.Shell.{shell_view}
use Rattle.ame_shell.specs.Ready.{CanBePrepared}
use Rattle.ame_baton.specs.Batons.{knows}
use Rattle.ame_baton.specs.Seats.{Takes}
use Rattle.ame_worker.specs.declared.worker.Worker.{Worker}
use Rattle.ame_worker.specs.Holding.{HasTheTurn}
use Rattle.ame_worker.specs.Leads.{RestsAtStop, LeadsUntilHandover}
use Rattle.ame_worker.specs.Led.{HasLed}
use Rattle.ame_worker.specs.Opened.{HasRowsAndTurns}
use Rattle.ame_worker.specs.Turns.{maker, HasHadTurns}
use Rattle.ame_worker.specs.Workers.{IsSeated, IsReadyToTurn}
use Rattle.ame_worker.proofs.GivenLemmas.{same-limits, taken-may, ready-again}
use Rattle.ame_worker.proofs.worker.Worker.lead.Goals as goal

pub lead_on-is_over-requires : goal.lead_on-is_over-requires
lead_on-is_over-requires g c = record {
  may = taken-may g.M.Runner.meaning (λ s. shell_view s.shell.value) (λ s. s.places.items) (λ s. s.turns) (arc_value c.args.self.now.code) c.args.self.now.limits
      (knows c.args.self.now.seat) (knows c.try_take.new.seat) c.in-Ok.shared c.requires.ready.seated c.in-Ok.ensures.taken c.args.self.now.work
      c.requires.ready.prepared;
}

pub hand_over-requires-clause-holds : goal.hand_over-requires-clause-holds
hand_over-requires-clause-holds g c =
    let r = g.M.Runner.meaning in
    let made = c.lead_on-is_over.ensures in
    let w = c.lead_on-is_over.new.self in
    let k = knows c.args.self.now.seat in
    let shared = c.in-Ok.shared in
    let mid = c.lead_on-is_over.new.shared in
    let old = c.args.self.now.work in
    let holds : HasTheTurn r (arc_value w.code) w.limits (knows w.seat) w.work mid = record {
      before = k;
      seated = subst (λ x. IsSeated r.signature (arc_value x.code) x.limits k) (sym made.worker) c.requires.ready.seated;
      taken = shared;
      takes = subst (λ x. Takes (HasRowsAndTurns r) maker k shared (knows x.seat)) (sym made.worker) c.in-Ok.ensures.taken;
      had = old;
      led = made.led.led;
      turns = subst (λ x. HasHadTurns r (arc_value x.code) (knows x.seat).number old (shell_view shared.shell.value) shared.turns (shell_view mid.shell.value) mid.turns w.work made.led.led)
          (sym made.worker) made.led.had;
      places = ap (λ s. s.places) made.rest;
    } in
    holds

pub returns-clause-led : goal.returns-clause-led
returns-clause-led g c =
    let r = g.M.Runner.meaning in
    let code = arc_value c.args.self.now.code in
    let limits = c.args.self.now.limits in
    let made = c.lead_on-is_over.ensures in
    let w = c.lead_on-is_over.new.self in
    let k = knows c.args.self.now.seat in
    let shared = c.in-Ok.shared in
    let mid = c.lead_on-is_over.new.shared in
    let old = c.args.self.now.work in
    let holds : HasTheTurn r (arc_value w.code) w.limits (knows w.seat) w.work mid = record {
      before = k;
      seated = subst (λ x. IsSeated r.signature (arc_value x.code) x.limits k) (sym made.worker) c.requires.ready.seated;
      taken = shared;
      takes = subst (λ x. Takes (HasRowsAndTurns r) maker k shared (knows x.seat)) (sym made.worker) c.in-Ok.ensures.taken;
      had = old;
      led = made.led.led;
      turns = subst (λ x. HasHadTurns r (arc_value x.code) (knows x.seat).number old (shell_view shared.shell.value) shared.turns (shell_view mid.shell.value) mid.turns w.work made.led.led)
          (sym made.worker) made.led.had;
      places = ap (λ s. s.places) made.rest;
    } in
    let has =
    subst (λ work. HasLed r code limits.slice k (knows c.hand_over.new.self.seat) old work made.led.led) (sym (ap (λ x. x.work) c.hand_over.ensures.rest))
    (subst (λ x. HasLed r (arc_value x.code) x.limits.slice k (knows c.hand_over.new.self.seat) old w.work made.led.led) made.worker (c.hand_over.ensures.led holds)) in
    let same = same-limits r (λ s. shell_view s.shell.value) (λ s. s.places.items) (λ s. s.turns) code limits k (knows c.try_take.new.seat) shared c.requires.ready.seated c.in-Ok.ensures.taken in
    inl (made.led.led, has, subst (λ (l : Limits). LeadsUntilHandover r code l.seats c.args.are_more made.led.led) same made.led.until)

pub returns-clause-keeps : goal.returns-clause-keeps
returns-clause-keeps g c =
    let r = g.M.Runner.meaning in
    let code = arc_value c.args.self.now.code in
    let limits = c.args.self.now.limits in
    let made = c.lead_on-is_over.ensures in
    let w = c.lead_on-is_over.new.self in
    let k = knows c.args.self.now.seat in
    let shared = c.in-Ok.shared in
    let mid = c.lead_on-is_over.new.shared in
    let old = c.args.self.now.work in
    let holds : HasTheTurn r (arc_value w.code) w.limits (knows w.seat) w.work mid = record {
      before = k;
      seated = subst (λ x. IsSeated r.signature (arc_value x.code) x.limits k) (sym made.worker) c.requires.ready.seated;
      taken = shared;
      takes = subst (λ x. Takes (HasRowsAndTurns r) maker k shared (knows x.seat)) (sym made.worker) c.in-Ok.ensures.taken;
      had = old;
      led = made.led.led;
      turns = subst (λ x. HasHadTurns r (arc_value x.code) (knows x.seat).number old (shell_view shared.shell.value) shared.turns (shell_view mid.shell.value) mid.turns w.work made.led.led)
          (sym made.worker) made.led.had;
      places = ap (λ s. s.places) made.rest;
    } in
    let has =
    subst (λ work. HasLed r code limits.slice k (knows c.hand_over.new.self.seat) old work made.led.led) (sym (ap (λ x. x.work) c.hand_over.ensures.rest))
    (subst (λ x. HasLed r (arc_value x.code) x.limits.slice k (knows c.hand_over.new.self.seat) old w.work made.led.led) made.worker (c.hand_over.ensures.led holds)) in
    has.keeps

pub returns-clause-ready : goal.returns-clause-ready
returns-clause-ready g c =
    let r = g.M.Runner.meaning in
    let code = arc_value c.args.self.now.code in
    let limits = c.args.self.now.limits in
    let made = c.lead_on-is_over.ensures in
    let w = c.lead_on-is_over.new.self in
    let k = knows c.args.self.now.seat in
    let shared = c.in-Ok.shared in
    let mid = c.lead_on-is_over.new.shared in
    let old = c.args.self.now.work in
    let holds : HasTheTurn r (arc_value w.code) w.limits (knows w.seat) w.work mid = record {
      before = k;
      seated = subst (λ x. IsSeated r.signature (arc_value x.code) x.limits k) (sym made.worker) c.requires.ready.seated;
      taken = shared;
      takes = subst (λ x. Takes (HasRowsAndTurns r) maker k shared (knows x.seat)) (sym made.worker) c.in-Ok.ensures.taken;
      had = old;
      led = made.led.led;
      turns = subst (λ x. HasHadTurns r (arc_value x.code) (knows x.seat).number old (shell_view shared.shell.value) shared.turns (shell_view mid.shell.value) mid.turns w.work made.led.led)
          (sym made.worker) made.led.had;
      places = ap (λ s. s.places) made.rest;
    } in
    let has =
    subst (λ work. HasLed r code limits.slice k (knows c.hand_over.new.self.seat) old work made.led.led) (sym (ap (λ x. x.work) c.hand_over.ensures.rest))
    (subst (λ x. HasLed r (arc_value x.code) x.limits.slice k (knows c.hand_over.new.self.seat) old w.work made.led.led) made.worker (c.hand_over.ensures.led holds)) in
    let same = same-limits r (λ s. shell_view s.shell.value) (λ s. s.places.items) (λ s. s.turns) code limits k (knows c.try_take.new.seat) shared c.requires.ready.seated c.in-Ok.ensures.taken in
    let all = c.hand_over.ensures.rest ∙ ap (λ (x : Worker g.row.M.Denot g.row.K.Denot g.row.D.Denot g.row.M-Code.Denot g.row.M-Value.Denot). record x { seat = c.hand_over.new.self.seat }) made.worker in
    let can = subst (λ (l : Limits). CanBePrepared r.is_machine r.stage code l.slice w.work) (made.led.had.leaves.limits ∙ same) made.can in
    let work = sym (ap (λ x. x.work) c.hand_over.ensures.rest) in
    subst (λ x. IsReadyToTurn r (arc_value x.code) x.limits (knows c.hand_over.new.self.seat) c.hand_over.new.self.work) (sym all)
    (ready-again r code limits k (knows c.hand_over.new.self.seat) old c.hand_over.new.self.work made.led.led has c.requires.ready.seated
    (subst (λ work. CanBePrepared r.is_machine r.stage code limits.slice work) work can))

pub returns-clause-through : goal.returns-clause-through
returns-clause-through g c = λ e.
    let made = c.lead_on-is_over.ensures in
    c.hand_over.ensures.through
    (subst (λ x. RestsAtStop c.lead_on-is_over.new.shared.shell.value.engine (knows x.seat).number) (sym made.worker) (made.led.over e))
