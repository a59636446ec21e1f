use Rattle.std.proofs.Common.{◌≡◌, ◌++◌, drop}
use Rattle.ame_drawing.specs.Causes.{causes_from}
use Rattle.ame_drawing.proofs.cause.collect.Given as goal

abbrev pub invariant-loop-index : goal.invariant-loop-index
invariant-loop-index l =
    l.arrows.items ++ causes_from l.known.starters.now l.known.stamps.now l.known.places l.known.spans.now l.picks l.index (drop l.index l.picks)
    ≡ causes_from l.known.starters.now l.known.stamps.now l.known.places l.known.spans.now l.picks 0 l.picks
