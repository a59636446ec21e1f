use Rattle.std.proofs.Common.{◌≡◌, ◌+◌, [], ◌∷◌, ◌++◌, length, take, sym, ap, ◌∙◌, arith}
use Rattle.std.proofs.lemmas.List.{length-append}
use Rattle.ame_sim.specs.Waits.{may_be_picked}
use Rattle.ame_sim.proofs.WaitsLemmas.{may-more, may-same}
use Rattle.ame_sim.proofs.waits.free_among.Goals as goal
use Rattle.ame_sim.proofs.waits.free_among.Goals.{then-not-waits-place, else-not-waits-place}

pub loop-place-preserved : goal.loop-place-preserved
loop-place-preserved c =
    let seat = c.loop-place.place in
    let waits = c.args.waits.now in
    let kept = c.loop-place.invariant in
    elim c.if-not-waits-place.branch [
      | then-not-waits-place w ↦
          let more = ap length (may-more waits seat c.loop-place-test.true w.if-not-waits-place.true) in
          let long : length (may_be_picked (take seat waits) ++ seat ∷ []) ≡ length (may_be_picked (take seat waits)) + 1 =
          length-append (may_be_picked (take seat waits)) (seat ∷ []) in (
            omega (arith, w.free-is, kept.0, more, long),
            omega (arith, w.free-is, kept.1),
          )
      | else-not-waits-place w ↦ (
        w.free-is ∙ kept.0 ∙ ap length (sym (may-same waits seat c.loop-place-test.true w.if-not-waits-place.false)),
        omega (arith, w.free-is, kept.1),
      )
    ]
