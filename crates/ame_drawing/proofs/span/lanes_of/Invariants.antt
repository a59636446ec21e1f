use Rattle.std.proofs.Common.{◌≡◌, drop}
use Rattle.ame_drawing.specs.Spans.{count_from}
use Rattle.ame_drawing.proofs.span.lanes_of.Given as goal

abbrev pub invariant-loop-pick : goal.invariant-loop-pick
invariant-loop-pick l = count_from l.count (drop l.pick-index l.picks) ≡ count_from 0 l.picks
