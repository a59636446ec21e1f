use Rattle.std.proofs.Common.{◌≡◌, take}
use Rattle.ame_drawing.specs.Courses as spec
use Rattle.ame_drawing.proofs.course.lanes_up_to.Given as goal

abbrev pub invariant-loop-moment : goal.invariant-loop-moment
invariant-loop-moment l = l.lanes ≡ spec.lanes_up_to l.last (take l.moment-index l.moments)
