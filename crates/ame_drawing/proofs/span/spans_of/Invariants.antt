use Rattle.std.proofs.Common.{◌≡◌}
use Rattle.ame_drawing.specs.Spans.{spans}
use Rattle.ame_drawing.proofs.span.spans_of.Given as goal

abbrev pub invariant-loop-place : goal.invariant-loop-place
invariant-loop-place l = l.spans.items ≡ spans l.place l.picks
