use Rattle.std.proofs.Common.{◌≡◌, ◌+◌, ◌++◌, drop}
use Rattle.ame_drawing.specs.Moments as spec
use Rattle.ame_drawing.proofs.moment.collect.Given as goal

abbrev pub invariant-loop-index : goal.invariant-loop-index
invariant-loop-index l = l.moments.items ++ spec.moments (l.index + 1) (drop l.index l.entries) l.rest ≡ spec.moments 1 l.entries l.tries
