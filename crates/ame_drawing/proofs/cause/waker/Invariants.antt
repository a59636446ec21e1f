use Rattle.std.proofs.Common.{◌≡◌}
use Rattle.ame_drawing.specs.Causes as spec
use Rattle.ame_drawing.proofs.cause.waker.Given as goal

abbrev pub invariant-loop-place : goal.invariant-loop-place
invariant-loop-place l = l.first ≡ spec.waker l.place l.member l.index l.spans l.earlier
