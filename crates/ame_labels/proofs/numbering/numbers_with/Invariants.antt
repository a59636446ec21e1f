use Rattle.std.proofs.Common.{◌≡◌, ◌≤◌, length, drop, reverse}
use Rattle.ame_labels.specs.EntryNumbers as spec
use Rattle.ame_labels.proofs.numbering.numbers_with.Given as goal

abbrev pub invariant-loop-left : goal.invariant-loop-left
invariant-loop-left l = record {
  within : l.left ≤ length l.labels;
  active : l.active ≡ spec.active_entry (drop l.left l.labels) (drop l.left l.counts);
  told : reverse l.numbers.items ≡ spec.numbers_with (drop l.left l.labels) (drop l.left l.counts);
}

abbrev pub decreases-loop-left : goal.decreases-loop-left
decreases-loop-left l = l.left
