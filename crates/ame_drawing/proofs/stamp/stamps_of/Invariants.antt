use Rattle.std.proofs.Common.{◌≡◌, ◌++◌, drop}
use Rattle.ame_drawing.specs.Stamps.{stamps}
use Rattle.ame_drawing.proofs.stamp.stamps_of.Given as goal

abbrev pub invariant-loop-index : goal.invariant-loop-index
invariant-loop-index l = l.stamps.items ++ stamps l.index (drop l.index l.picks) ≡ stamps 0 l.picks
