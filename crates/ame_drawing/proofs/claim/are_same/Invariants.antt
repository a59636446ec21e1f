use Rattle.std.proofs.Common.{◌≡◌, take}
use Rattle.ame_drawing.proofs.claim.are_same.Given as goal

abbrev pub invariant-loop-index : goal.invariant-loop-index
invariant-loop-index l = take l.index l.told ≡ take l.index l.made
