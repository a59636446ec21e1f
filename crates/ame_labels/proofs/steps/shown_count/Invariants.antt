use Rattle.std.proofs.Common.{◌≡◌, ◌+◌, drop}
use Rattle.ame_labels.specs.Front.{shown_from}
use Rattle.ame_labels.proofs.steps.shown_count.Given as goal

abbrev pub invariant-loop-index : goal.invariant-loop-index
invariant-loop-index l = l.index + shown_from l.left (drop l.index l.entries) ≡ shown_from 10000 l.entries
