use Rattle.std.proofs.Common.{◌≡◌, ◌||◌, true, false, nat_lt, refl, sym, ap, ◌∙◌, subst}
use Rattle.std.specs.Arc.{arc_value}
use Rattle.ame_protocol.specs.declared.types.Limits.{Limits}
use Rattle.ame_shell.specs.Shell.{shell_view}
use Rattle.ame_shell.specs.Ready.{IsPrepared}
use Rattle.ame_shell.specs.Turned.{LeavesInOrder}
use Rattle.ame_shell.specs.Work.{stage_at}
use Rattle.ame_baton.specs.Batons.{knows}
use Rattle.ame_worker.specs.declared.shared.Shared.{Shared}
use Rattle.ame_worker.specs.declared.worker.Worker.{Worker}
use Rattle.ame_worker.specs.Leads.{RestsAtStop}
use Rattle.ame_worker.specs.Turns.{turn_by}
use Rattle.ame_worker.proofs.LeadLemmas.{IsLeading, hands-as, leads-none, leads-more, leads-until}
use Rattle.ame_worker.proofs.ThroughLemmas.{has-stopped}
use Rattle.ame_worker.proofs.worker.Worker.lead_on.Goals as goal
use Rattle.ame_worker.proofs.worker.Worker.lead_on.Goals.{in-Stopped, in_default}

pub returns-then-is_rest-helps-clause-led : goal.returns-then-is_rest-helps-clause-led
returns-then-is_rest-helps-clause-led g c =
    let r = g.M.Runner.meaning in
    let code = arc_value c.args.self.now.code in
    let n = (knows c.args.self.now.seat).number in
    let inv = c.loop.invariant in
    let mid = c.loop.shared in
    let hand = c.prepare_seat.new.work in
    let made = c.play-turn.ensures in
    let new = c.play-turn.new.work in
    let limits = c.args.shared.now.shell.value.engine.limits in
    let t = turn_by c.number-seat.result hand (shell_view mid.shell.value) c.play-turn.result.outcome (shell_view c.play-turn.new.self.shell.value) in
    let ready =
    subst (λ (l : Limits). IsPrepared r.is_machine r.stage code l.slice c.loop.self.work hand) inv.leads.leaves.limits
    (subst (λ it. IsPrepared r.is_machine r.stage it mid.shell.value.engine.limits.slice c.loop.self.work hand) (sym inv.leads.leaves.may.order.same)
    (subst (λ s. IsPrepared r.is_machine r.stage s.engine.code s.engine.limits.slice c.loop.self.work hand) c.deref-in-loop.ensures
    c.prepare_seat.ensures.prepared)) in
    let leaves =
    subst (λ k. LeavesInOrder r k n (shell_view mid.shell.value) t.new new) (c.deref-in-loop-3.ensures ∙ ap (λ w. arc_value w.code) inv.worker)
    (subst (λ n. LeavesInOrder r c.deref-in-loop-3.result.now n (shell_view mid.shell.value) t.new new) c.number-seat.ensures made.leaves) in
    let many = ap (λ (l : Limits). nat_lt 1 l.seats) (c.limits.ensures ∙ ap (λ s. s.engine.limits) c.deref.ensures) in
    let rests : c.match-matches.matches ≡ true → RestsAtStop t.new.core n = λ e. elim c.match-matches.branch [
      | in-Stopped w ↦
          subst (λ n. RestsAtStop t.new.core n) c.number-seat.ensures
          (has-stopped r t.seat (stage_at r.stage t.old.core.code t.hand) t.old t.new t.outcome made.joins.turned.turned w.in-Stopped.is)
      | in_default w ↦ absurd (let clash : false ≡ true = sym w.matches-is ∙ e in cc)
    ] in
    leads-until r code n c.args.are_more (shell_view c.args.shared.now.shell.value) c.args.shared.now.turns c.args.self.now.work
    (shell_view mid.shell.value) mid.turns c.loop.self.work c.loop.are_more inv.leads t made.joins.turned refl c.number-seat.ensures ready
    c.play-turn.new.self.turns made.joins.joined new leaves c.match-matches.matches
    (hands-as r code limits.seats c.loop.are_more t c.is_rest.result _ c.is_heavy.result true c.is_rest.ensures many (c.is_heavy.ensures code)
    c.if-is_rest-helps.true)
    rests

pub loop-init : goal.loop-init
loop-init g c = record {
  leads = leads-none g.M.Runner.meaning (arc_value c.args.self.now.code) (knows c.args.self.now.seat).number c.args.are_more
      (shell_view c.args.shared.now.shell.value) c.args.shared.now.turns c.args.self.now.work c.requires.may;
  rest = refl;
  worker = refl;
}

pub loop-preserved : goal.loop-preserved
loop-preserved g c =
    let r = g.M.Runner.meaning in
    let code = arc_value c.args.self.now.code in
    let n = (knows c.args.self.now.seat).number in
    let inv = c.loop.invariant in
    let mid = c.loop.shared in
    let hand = c.prepare_seat.new.work in
    let made = c.play-turn.ensures in
    let new = c.play-turn.new.work in
    let limits = c.args.shared.now.shell.value.engine.limits in
    let t = turn_by c.number-seat.result hand (shell_view mid.shell.value) c.play-turn.result.outcome (shell_view c.play-turn.new.self.shell.value) in
    let ready =
    subst (λ (l : Limits). IsPrepared r.is_machine r.stage code l.slice c.loop.self.work hand) inv.leads.leaves.limits
    (subst (λ it. IsPrepared r.is_machine r.stage it mid.shell.value.engine.limits.slice c.loop.self.work hand) (sym inv.leads.leaves.may.order.same)
    (subst (λ s. IsPrepared r.is_machine r.stage s.engine.code s.engine.limits.slice c.loop.self.work hand) c.deref-in-loop.ensures
    c.prepare_seat.ensures.prepared)) in
    let leaves =
    subst (λ k. LeavesInOrder r k n (shell_view mid.shell.value) t.new new) (c.deref-in-loop-3.ensures ∙ ap (λ w. arc_value w.code) inv.worker)
    (subst (λ n. LeavesInOrder r c.deref-in-loop-3.result.now n (shell_view mid.shell.value) t.new new) c.number-seat.ensures made.leaves) in
    let many = ap (λ (l : Limits). nat_lt 1 l.seats) (c.limits.ensures ∙ ap (λ s. s.engine.limits) c.deref.ensures) in
    record {
      leads =
          subst (λ b. IsLeading r code n c.args.are_more (shell_view c.args.shared.now.shell.value) c.args.shared.now.turns c.args.self.now.work
          t.new c.play-turn.new.self.turns new (c.loop.are_more || b)) (sym c.is_commit-are_more.ensures)
          (leads-more r code n c.args.are_more (shell_view c.args.shared.now.shell.value) c.args.shared.now.turns c.args.self.now.work
          (shell_view mid.shell.value) mid.turns c.loop.self.work c.loop.are_more inv.leads t made.joins.turned refl c.number-seat.ensures ready
          c.play-turn.new.self.turns made.joins.joined new leaves
          (hands-as r code limits.seats c.loop.are_more t c.is_rest.result _ c.is_heavy.result false c.is_rest.ensures many (c.is_heavy.ensures code)
          c.if-is_rest-helps.false));
      rest = made.rest ∙ ap (λ (s : Shared g.row.M.Denot g.row.K.Denot g.row.D.Denot g.row.M-Code.Denot g.row.M-Value.Denot). record s { shell = c.play-turn.new.self.shell; turns = c.play-turn.new.self.turns }) inv.rest;
      worker =
          ap (λ (it : Worker g.row.M.Denot g.row.K.Denot g.row.D.Denot g.row.M-Code.Denot g.row.M-Value.Denot). record it { work = new }) inv.worker;
    }
