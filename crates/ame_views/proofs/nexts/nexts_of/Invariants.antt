use Rattle.std.proofs.Common.{◌≡◌, ℕ, ◌≤◌, length, drop, reverse}
use Rattle.std.specs.Ordering.{nat_cmp}
use Rattle.std.specs.BTreeMap as tree
use Rattle.ame_views.specs.Nexts.{kind_of_next, nexts}
use Rattle.ame_views.proofs.nexts.nexts_of.Given as goal

abbrev pub invariant-loop-left : goal.invariant-loop-left
invariant-loop-left l = record {
  within : l.left ≤ length l.entries;
  found : (i : ℕ) → tree.get nat_cmp l.seen i ≡ kind_of_next i (drop l.left l.entries);
  told : reverse l.nexts.items ≡ nexts (drop l.left l.entries);
}

abbrev pub decreases-loop-left : goal.decreases-loop-left
decreases-loop-left l = l.left
