use Rattle.std.proofs.Common.{◌≡◌, drop, None}
use Rattle.ame_drawing.specs.Arrows.{last_spot}
use Rattle.ame_drawing.proofs.arrow.last_spot.Given as goal

abbrev pub invariant-loop-index : goal.invariant-loop-index
invariant-loop-index l = last_spot l.sought l.index l.last (drop l.index l.picks) ≡ last_spot l.sought 0 None l.picks
