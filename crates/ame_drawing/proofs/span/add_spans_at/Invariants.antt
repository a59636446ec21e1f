use Rattle.std.proofs.Common.{◌≡◌, ◌++◌, drop, None}
use Rattle.ame_drawing.specs.Spans.{spans_from}
use Rattle.ame_drawing.proofs.span.add_spans_at.Given as goal

abbrev pub invariant-loop-index : goal.invariant-loop-index
invariant-loop-index l =
    l.spans.items ++ spans_from l.place l.index l.begun (drop l.index l.picks) ≡ l.initial.spans.items ++ spans_from l.place 0 None l.picks
