use Rattle.std.proofs.Common.{◌≡◌, ℕ, ◌+◌, ◌<◌, All, Some, length, slice_get, vec_len, sym, ap, ◌∙◌, subst, arith}
use Rattle.std.specs.Prelude.{option_to_list, IfSome}
use Rattle.std.specs.Arc.{arc_value}
use Rattle.std.proofs.lemmas.List.Elements.{All-push, All-pop}
use Rattle.ame_baton.specs.Batons.{knows, IsSeatOf}
use Rattle.ame_worker.specs.declared.worker.Worker.{Worker}
use Rattle.ame_worker.specs.Rows.{empty_row}
use Rattle.ame_worker.specs.Workers.{IsSeated, IsReadyToTurn}
use Rattle.ame_team.specs.Teams.{IsFirstSeat, IsSeatAt}
use Rattle.ame_team.proofs.TeamLemmas.{AreOthers, next-seated, first-seated, first-more, others-more, all-placed}
use Rattle.ame_team.proofs.team.team.Goals as goal

pub new-requires-clause-seated : goal.new-requires-clause-seated
new-requires-clause-seated g c =
    let inv = c.loop.invariant in
    let k = knows c.loop.first in
    let codes = All-pop (λ it. arc_value it ≡ arc_value c.args.code) c.loop.codes.items c.pop.new.self.items c.pop.result c.pop.ensures.items inv.codes in
    let share = subst (λ o. IfSome o (λ it. arc_value it ≡ arc_value c.args.code)) c.in-Some.is codes.1 in
    let within = subst (λ n. n < c.args.limits.seats) (sym inv.first.made_is) c.loop-test.true in
    subst (λ code. IsSeated g.M.Runner.meaning.signature code c.args.limits (knows c.seat-seat.result)) (sym share)
    (subst (IsSeated g.M.Runner.meaning.signature (arc_value c.args.code) c.args.limits) (sym c.seat-seat.ensures.next)
    (next-seated g.M.Runner.meaning.signature (arc_value c.args.code) c.args.limits k empty_row within inv.seated))

pub loop-preserved : goal.loop-preserved
loop-preserved g c =
    let inv = c.loop.invariant in
    let k = knows c.loop.first in
    let w = c.new.result in
    let codes = All-pop (λ it. arc_value it ≡ arc_value c.args.code) c.loop.codes.items c.pop.new.self.items c.pop.result c.pop.ensures.items inv.codes in
    let fewer = subst (λ o. vec_len c.pop.new.self + length (option_to_list o) ≡ vec_len c.loop.codes) c.in-Some.is c.pop.ensures.len in
    let more = c.push_reserved.ensures in
    let len = c.loop.workers.ok.0 in
    let number = ap (λ x. x.number) c.seat-seat.ensures.next ∙ inv.first.made_is in
    record {
      of = c.seat-seat.ensures.of;
      seated = subst (IsSeated g.M.Runner.meaning.signature (arc_value c.args.code) c.args.limits) (sym c.seat-seat.ensures.counted)
          (first-seated g.M.Runner.meaning.signature (arc_value c.args.code) c.args.limits k (k.made + 1) inv.seated);
      fixed = ap (λ x. x.fixed) c.seat-seat.ensures.counted ∙ inv.fixed;
      first = subst (IsFirstSeat (c.loop.counter + 1)) (sym c.seat-seat.ensures.counted) (first-more c.loop.counter k inv.first);
      count = let a = more.len in let b = inv.count in omega (arith, a, b);
      room = let a = more.capacity in let b = inv.room in omega (arith, a, b);
      left = let a = inv.left in omega (arith, fewer, a);
      codes = codes.0;
      others =
          subst (AreOthers c.args.baton.now (knows c.args.first).fixed) (sym more.items)
          (others-more c.args.baton.now (knows c.args.first).fixed c.loop.workers.items w inv.others
          (record {
            of = subst (IsSeatOf c.args.baton.now) (sym c.new.ensures.seat) c.seat-seat.ensures.made;
            fixed = ap (λ s. (knows s).fixed) c.new.ensures.seat ∙ ap (λ x. x.fixed) c.seat-seat.ensures.next ∙ inv.fixed;
            numbered = ap (λ s. (knows s).number) c.new.ensures.seat ∙ number ∙ (let a = inv.count in omega (arith, a, len));
          }));
      ready =
          subst (All (λ w. IsReadyToTurn g.M.Runner.meaning (arc_value w.code) w.limits (knows w.seat) w.work)) (sym more.items)
          (All-push (λ w. IsReadyToTurn g.M.Runner.meaning (arc_value w.code) w.limits (knows w.seat) w.work)
          c.loop.workers.items w inv.ready c.new.ensures.ready);
    }

pub returns-clause-seats : goal.returns-clause-seats
returns-clause-seats g c =
    let inv = c.loop.invariant in
    let first = c.new-2.ensures.seat in
    let at_end : c.loop.counter ≡ c.args.limits.seats = let a = c.loop-test.false in let b = inv.left in omega (arith, a, b) in
    let count : length c.loop.workers.items + 1 ≡ c.args.limits.seats = let a = c.loop.workers.ok.0 in let b = inv.count in omega (arith, a, b, at_end) in
    subst (λ items. (i : ℕ) (w : Worker g.row.M.Denot g.row.K.Denot g.row.D.Denot g.row.M-Code.Denot g.row.M-Value.Denot) → slice_get items i ≡ Some w
    → IsSeatAt c.args.baton.now (knows c.args.first).fixed c.args.limits.seats i w.seat) (sym c.push_reserved-2.ensures.items)
    (all-placed c.args.baton.now (knows c.args.first).fixed c.args.limits.seats c.loop.workers.items c.new-2.result inv.others count
    (subst (IsSeatOf c.args.baton.now) (sym first) inv.of)
    (ap (λ s. (knows s).fixed) first ∙ inv.fixed)
    (ap (λ s. (knows s).number) first ∙ inv.first.numbered)
    (ap (λ s. (knows s).made) first ∙ inv.first.made_is ∙ at_end))

pub returns-clause-ready : goal.returns-clause-ready
returns-clause-ready g c =
    subst (All (λ w. IsReadyToTurn g.M.Runner.meaning (arc_value w.code) w.limits (knows w.seat) w.work)) (sym c.push_reserved-2.ensures.items)
    (All-push (λ w. IsReadyToTurn g.M.Runner.meaning (arc_value w.code) w.limits (knows w.seat) w.work)
    c.loop.workers.items c.new-2.result c.loop.invariant.ready c.new-2.ensures.ready)
