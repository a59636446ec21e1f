use Rattle.std.proofs.Common.{◌≡◌, ◌++◌, List, All, sym, ap, subst, ◌∙◌, arith}
use Rattle.std.proofs.lemmas.Grind.{common_steps}
use Rattle.std.proofs.lemmas.List.Elements.{All-append}
use Rattle.ame_drawing.specs.declared.lane.DrawnAttempt.{DrawnAttempt}
use Rattle.ame_drawing.specs.Lanes.{FitsFate}
use Rattle.ame_drawing.proofs.CountLemmas.{lanes_more}
use Rattle.ame_drawing.proofs.lane.lanes_below.Goals as goal

pub loop-seat-preserved : goal.loop-seat-preserved
loop-seat-preserved c = record {
  so_far = grind (arith, common_steps, lanes_more c.loop-seat.seat c.args.picks.now);
  fates =
      let P : List DrawnAttempt → Type 0 = All FitsFate in
      let e : c.extend_from_slice.new.self.items ≡ c.loop-seat.all.items ++ c.in_ok-lane.lane.items =
      c.in_ok-extend_from_slice.ensures.items ∙ ap (λ xs. c.loop-seat.all.items ++ xs) c.as_slice.ensures.value in
      subst P (sym e) (All-append FitsFate c.loop-seat.all.items c.in_ok-lane.lane.items c.loop-seat.invariant.fates c.in_ok-lane.ensures.fates);
}
