use Rattle.std.proofs.Common.{◌∷◌, [], refl, sym, ap, ◌∙◌, subst}
use Rattle.std.specs.Arc.{arc_value}
use Rattle.ame_protocol.specs.declared.types.Limits.{Limits}
use Rattle.ame_shell.specs.Shell.{shell_view}
use Rattle.ame_shell.specs.Ready.{CanBePrepared, IsPrepared}
use Rattle.ame_shell.specs.Turned.{MayTurn, LeavesInOrder}
use Rattle.ame_baton.specs.Batons.{knows}
use Rattle.ame_worker.specs.declared.gate.Point.{Point}
use Rattle.ame_worker.specs.Holding.{HasTheTurn}
use Rattle.ame_worker.specs.Led.{HasLed}
use Rattle.ame_worker.specs.Points.{point_of}
use Rattle.ame_worker.specs.Turns.{turn_by, HasHadTurns}
use Rattle.ame_worker.specs.Workers.{IsReadyToTurn}
use Rattle.ame_worker.proofs.WorkLemmas.{prepared-twice, prepared-can}
use Rattle.ame_worker.proofs.PlayLemmas.{had-once}
use Rattle.ame_worker.proofs.GivenLemmas.{same-limits, taken-may, ready-again, had-through}
use Rattle.ame_worker.proofs.ThroughLemmas.{did-is}
use Rattle.ame_worker.proofs.worker.Worker.turn.Goals as goal

pub returns-in-Err-clause-ready : goal.returns-in-Err-clause-ready
returns-in-Err-clause-ready g c =
    let r = g.M.Runner.meaning in
    let code = arc_value c.args.self.now.code in
    let slice = c.args.self.now.limits.slice in
    let done = subst (λ code. IsPrepared r.is_machine r.stage code slice c.args.self.now.work c.prepare.new.work) c.deref-code.ensures c.prepare.ensures.prepared in
    subst (λ k. IsReadyToTurn r code c.args.self.now.limits k c.prepare.new.work) (sym c.in-Err.ensures.same)
    (record {
      seated = c.requires.ready.seated;
      free = c.requires.ready.free;
      prepared = prepared-twice r.is_machine r.stage code slice (knows c.args.self.now.seat).row.hand c.args.self.now.work c.prepare.new.work c.requires.ready.prepared done;
      can = prepared-can r.is_machine r.stage code slice c.args.self.now.work c.prepare.new.work c.requires.ready.can done;
    })

pub play-turn-requires : goal.play-turn-requires
play-turn-requires g c =
    let r = g.M.Runner.meaning in
    let code = arc_value c.args.self.now.code in
    let slice = c.args.self.now.limits.slice in
    let shell = shell_view c.in-Ok.shared.shell.value in
    let work = c.prepare.new.work in
    let done = subst (λ code. IsPrepared r.is_machine r.stage code slice c.args.self.now.work work) c.deref-code.ensures c.prepare.ensures.prepared in
    record {
      may =
          subst (λ n. MayTurn r c.deref-code.result.now n shell work) (sym c.number-number.ensures)
          (subst (λ k. MayTurn r k (knows c.try_take.new.seat).number shell work) (sym c.deref-code.ensures)
          (taken-may r (λ s. (shell_view s.shell.value)) (λ s. s.places.items) (λ s. s.turns) code c.args.self.now.limits
          (knows c.args.self.now.seat) (knows c.try_take.new.seat) c.in-Ok.shared c.requires.ready.seated c.in-Ok.ensures.taken work
          (prepared-twice r.is_machine r.stage code slice (knows c.args.self.now.seat).row.hand c.args.self.now.work work c.requires.ready.prepared done)));
    }

pub hand_over-requires-clause-holds : goal.hand_over-requires-clause-holds
hand_over-requires-clause-holds g c =
    let r = g.M.Runner.meaning in
    let code = arc_value c.args.self.now.code in
    let limits = c.args.self.now.limits in
    let made = c.play-turn.ensures in
    let k = knows c.args.self.now.seat in
    let holding = knows c.try_take.new.seat in
    let shared = c.in-Ok.shared in
    let mid = c.play-turn.new.self in
    let old = c.args.self.now.work in
    let new = c.play-turn.new.work in
    let number = c.number-number.result in
    let same = same-limits r (λ s. shell_view s.shell.value) (λ s. s.places.items) (λ s. s.turns) code limits k holding shared c.requires.ready.seated c.in-Ok.ensures.taken in
    let done = subst (λ code. IsPrepared r.is_machine r.stage code limits.slice old c.prepare.new.work) c.deref-code.ensures c.prepare.ensures.prepared in
    let t = turn_by number c.prepare.new.work (shell_view shared.shell.value) c.play-turn.result.outcome (shell_view mid.shell.value) in
    let holds : HasTheTurn r code limits holding new mid = record {
      before = k;
      seated = c.requires.ready.seated;
      taken = shared;
      takes = c.in-Ok.ensures.taken;
      had = old;
      led = t ∷ [];
      turns =
          subst (λ n. HasHadTurns r code n old (shell_view shared.shell.value) shared.turns (shell_view mid.shell.value) mid.turns new (t ∷ [])) c.number-number.ensures
          (had-once r code number old new (shell_view shared.shell.value) (shell_view mid.shell.value) shared.turns mid.turns c.prepare.new.work
          c.play-turn.result.outcome c.play-turn.result.member made.joins
          (subst (λ it. LeavesInOrder r it number (shell_view shared.shell.value) (shell_view mid.shell.value) new) c.deref-code.ensures made.leaves)
          (subst (λ (l : Limits). IsPrepared r.is_machine r.stage code l.slice old c.prepare.new.work) (sym same) done));
      places = ap (λ s. s.places) made.rest;
    } in
    holds

pub returns-clause-did : goal.returns-clause-did
returns-clause-did g c = λ point e.
    let r = g.M.Runner.meaning in
    let code = arc_value c.args.self.now.code in
    let limits = c.args.self.now.limits in
    let made = c.play-turn.ensures in
    let k = knows c.args.self.now.seat in
    let holding = knows c.try_take.new.seat in
    let shared = c.in-Ok.shared in
    let mid = c.play-turn.new.self in
    let old = c.args.self.now.work in
    let new = c.play-turn.new.work in
    let number = c.number-number.result in
    let same = same-limits r (λ s. shell_view s.shell.value) (λ s. s.places.items) (λ s. s.turns) code limits k holding shared c.requires.ready.seated c.in-Ok.ensures.taken in
    let done = subst (λ code. IsPrepared r.is_machine r.stage code limits.slice old c.prepare.new.work) c.deref-code.ensures c.prepare.ensures.prepared in
    let t = turn_by number c.prepare.new.work (shell_view shared.shell.value) c.play-turn.result.outcome (shell_view mid.shell.value) in
    let holds : HasTheTurn r code limits holding new mid = record {
      before = k;
      seated = c.requires.ready.seated;
      taken = shared;
      takes = c.in-Ok.ensures.taken;
      had = old;
      led = t ∷ [];
      turns =
          subst (λ n. HasHadTurns r code n old (shell_view shared.shell.value) shared.turns (shell_view mid.shell.value) mid.turns new (t ∷ [])) c.number-number.ensures
          (had-once r code number old new (shell_view shared.shell.value) (shell_view mid.shell.value) shared.turns mid.turns c.prepare.new.work
          c.play-turn.result.outcome c.play-turn.result.member made.joins
          (subst (λ it. LeavesInOrder r it number (shell_view shared.shell.value) (shell_view mid.shell.value) new) c.deref-code.ensures made.leaves)
          (subst (λ (l : Limits). IsPrepared r.is_machine r.stage code l.slice old c.prepare.new.work) (sym same) done));
      places = ap (λ s. s.places) made.rest;
    } in
    record {
      turn = t;
      led =
          subst (λ work. HasLed r code limits.slice k (knows c.hand_over.new.self.seat) old work (t ∷ [])) (sym (ap (λ x. x.work) c.hand_over.ensures.rest))
          (c.hand_over.ensures.led holds);
      told = sym (did-is c.point_of-point.result point e) ∙ c.point_of-point.ensures ∙ ap (point_of c.play-turn.result.outcome) made.joins.told;
    }

pub returns-clause-keeps : goal.returns-clause-keeps
returns-clause-keeps g c = (returns-clause-did g c c.point_of-point.result refl).led.keeps

pub returns-clause-ready : goal.returns-clause-ready
returns-clause-ready g c =
    let r = g.M.Runner.meaning in
    let code = arc_value c.args.self.now.code in
    let limits = c.args.self.now.limits in
    let k = knows c.args.self.now.seat in
    let new = c.play-turn.new.work in
    let fin = c.hand_over.new.self in
    let same = same-limits r (λ s. shell_view s.shell.value) (λ s. s.places.items) (λ s. s.turns) code limits k (knows c.try_take.new.seat) c.in-Ok.shared c.requires.ready.seated c.in-Ok.ensures.taken in
    let had = returns-clause-did g c c.point_of-point.result refl in
    let can =
    subst (λ (l : Limits). CanBePrepared r.is_machine r.stage code l.slice new) (c.play-turn.ensures.leaves.limits ∙ same)
    (subst (λ code. CanBePrepared r.is_machine r.stage code c.play-turn.new.self.shell.value.engine.limits.slice new) c.deref-code.ensures c.play-turn.ensures.can) in
    subst (λ x. IsReadyToTurn r (arc_value x.code) x.limits (knows fin.seat) fin.work) (sym c.hand_over.ensures.rest)
    (ready-again r code limits k (knows fin.seat) c.args.self.now.work fin.work (had.turn ∷ []) had.led c.requires.ready.seated
    (subst (λ work. CanBePrepared r.is_machine r.stage code limits.slice work) (sym (ap (λ x. x.work) c.hand_over.ensures.rest)) can))

pub returns-clause-through : goal.returns-clause-through
returns-clause-through g c = λ e.
    had-through g.M.Runner.meaning (arc_value c.args.self.now.code) c.args.self.now.limits (knows c.args.self.now.seat) (knows c.hand_over.new.self.seat)
    c.args.self.now.work c.hand_over.new.self.work (returns-clause-did g c Point.Stopped e)
