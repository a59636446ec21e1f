use Rattle.std.proofs.Common.{◌≡◌, All}
use Rattle.ame_drawing.specs.Lanes.{lanes_below, FitsFate}
use Rattle.ame_drawing.proofs.lane.lanes_below.Given as goal

abbrev pub invariant-loop-seat : goal.invariant-loop-seat
invariant-loop-seat l = record {
  so_far : l.all.items ≡ lanes_below l.seat l.picks;
  fates : All FitsFate l.all.items;
}
