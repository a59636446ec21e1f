use Rattle.std.proofs.Common.{◌≡◌, ◌++◌, drop}
use Rattle.ame_drawing.specs.Arrows.{arrows_from}
use Rattle.ame_drawing.proofs.arrow.collect.Given as goal

abbrev pub invariant-loop-index : goal.invariant-loop-index
invariant-loop-index l = l.arrows.items ++ arrows_from l.picks l.index (drop l.index l.picks) ≡ arrows_from l.picks 0 l.picks
