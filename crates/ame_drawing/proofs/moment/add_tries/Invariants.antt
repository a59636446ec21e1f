use Rattle.std.proofs.Common.{◌≡◌, ◌++◌, take}
use Rattle.ame_drawing.specs.Moments.{tries_shown}
use Rattle.ame_drawing.proofs.moment.add_tries.Given as goal

abbrev pub invariant-loop-lost : goal.invariant-loop-lost
invariant-loop-lost l = l.moments.items ≡ l.initial.moments.items ++ tries_shown (take l.lost-index l.tries)
