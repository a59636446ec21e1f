use Rattle.std.proofs.Common.{◌≡◌, drop}
use Rattle.ame_drawing.specs.Courses as spec
use Rattle.ame_drawing.proofs.course.entry_spot.Given as goal

abbrev pub invariant-loop-index : goal.invariant-loop-index
invariant-loop-index l = spec.entry_spot l.number l.index (drop l.index l.moments) ≡ spec.entry_spot l.number 0 l.moments
