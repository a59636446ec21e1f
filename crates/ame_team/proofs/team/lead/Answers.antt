use Rattle.std.proofs.Common.{◌-◌, length, refl, arith}
use Rattle.std.specs.Arc.{arc_value}
use Rattle.std.proofs.lemmas.List.{get_or-set_other, length-set}
use Rattle.std.proofs.lemmas.List.Elements.{All-set}
use Rattle.ame_baton.specs.Batons.{knows, IsSeatOf}
use Rattle.ame_baton.specs.Keeping.{KeepsSeat}
use Rattle.ame_worker.specs.Workers.{IsReadyToTurn}
use Rattle.ame_team.proofs.ChangeLemmas.{related_at, keep-same}
use Rattle.ame_team.proofs.team.lead.Goals as goal

pub returns-then-not-may_hold-clause-others : goal.returns-then-not-may_hold-clause-others
returns-then-not-may_hold-clause-others g c = λ i d within.
    get_or-set_other c.args.workers.now (length c.args.workers.now - 1) i c.lead.new.self d (λ e. absurd (omega (arith, e, within)))

pub returns-then-not-may_hold-clause-ready : goal.returns-then-not-may_hold-clause-ready
returns-then-not-may_hold-clause-ready g c = record {
  of = All-set (λ w. IsSeatOf c.args.baton.now w.seat) c.args.workers.now (length c.args.workers.now - 1) c.lead.new.self c.lead.ensures.of c.requires.ready.of;
  ready =
      All-set (λ w. IsReadyToTurn g.M.Runner.meaning (arc_value w.code) w.limits (knows w.seat) w.work)
      c.args.workers.now (length c.args.workers.now - 1) c.lead.new.self c.lead.ensures.ready c.requires.ready.ready;
}

pub returns-then-not-may_hold-clause-keep : goal.returns-then-not-may_hold-clause-keep
returns-then-not-may_hold-clause-keep g c = record {
  count = length-set c.args.workers.now (length c.args.workers.now - 1) c.lead.new.self;
  each =
      let some = c.requires.some in
      related_at (λ v w. KeepsSeat (knows v.seat) (knows w.seat)) (λ w. record { number = refl; fixed = refl; seats = refl; made = refl; ended = refl })
      c.args.workers.now (length c.args.workers.now - 1) c.index-workers-last.result c.lead.new.self (omega (arith, some)) c.lead.ensures.keeps;
}

pub returns-else-not-may_hold-clause-keep : goal.returns-else-not-may_hold-clause-keep
returns-else-not-may_hold-clause-keep g c = keep-same c.args.workers.now
