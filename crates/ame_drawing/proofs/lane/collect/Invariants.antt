use Rattle.std.proofs.Common.{◌≡◌, ◌+◌, ◌≤◌, ◌++◌, drop, None}
use Rattle.ame_drawing.specs.Lanes.{lane_from}
use Rattle.ame_drawing.proofs.lane.collect.Given as goal

abbrev pub invariant-loop-index : goal.invariant-loop-index
invariant-loop-index l = record {
  few : l.number ≤ l.index + 1;
  so_far : l.lane.items ++ lane_from l.seat l.number l.index l.begun (drop l.index l.picks) ≡ lane_from l.seat 1 0 None l.picks;
}
