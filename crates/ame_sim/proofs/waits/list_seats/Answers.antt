use Rattle.std.proofs.Common.{◌∙◌, ◌++◌, ◌∷◌, [], ap, sym, arith, vec_len, vec_capacity}
use Rattle.ame_sim.proofs.WaitsLemmas.{may-more, may-same}
use Rattle.ame_sim.proofs.waits.list_seats.Goals as goal
use Rattle.ame_sim.proofs.waits.list_seats.Goals.{then-not-waits-seat, else-not-waits-seat}

pub loop-seat-preserved : goal.loop-seat-preserved
loop-seat-preserved c =
    let seat = c.loop-seat.seat in
    let waits = c.args.waits.now in
    let kept = c.loop-seat.invariant in
    elim c.if-not-waits-seat.branch [
      | then-not-waits-seat w ↦
          let pushed = w.push_reserved.ensures in (
            ap (λ v. v.items) w.may-is ∙ pushed.items ∙ ap (λ t. t ++ seat ∷ []) kept.0 ∙ sym (may-more waits seat c.loop-seat-test.true w.if-not-waits-seat.true),
            omega (arith, ap (λ v. vec_len v) w.may-is, pushed.len, kept.1),
            ap (λ v. vec_capacity v) w.may-is ∙ pushed.capacity ∙ kept.2,
          )
      | else-not-waits-seat w ↦ (
        ap (λ v. v.items) w.may-is ∙ kept.0 ∙ sym (may-same waits seat c.loop-seat-test.true w.if-not-waits-seat.false),
        omega (arith, ap (λ v. vec_len v) w.may-is, kept.1),
        ap (λ v. vec_capacity v) w.may-is ∙ kept.2,
      )
    ]
