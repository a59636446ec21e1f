use Rattle.std.proofs.Common.{◌≡◌}
use Rattle.ame_views.specs.LineIndex.{feeds_before}
use Rattle.ame_views.proofs.line_index.LineIndex.of.Given as goal

abbrev pub invariant-loop-place : goal.invariant-loop-place
invariant-loop-place l = l.feeds.items ≡ feeds_before l.text l.place
