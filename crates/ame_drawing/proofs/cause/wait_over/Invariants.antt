use Rattle.std.proofs.Common.{◌≡◌, drop}
use Rattle.ame_drawing.specs.Causes.{wait_from, no_wait}
use Rattle.ame_drawing.proofs.cause.wait_over.Given as goal

abbrev pub invariant-loop-index : goal.invariant-loop-index
invariant-loop-index l = wait_from l.member l.place l.index l.wait (drop l.index l.picks) ≡ wait_from l.member l.place 0 no_wait l.picks
