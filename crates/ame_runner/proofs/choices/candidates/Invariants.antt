use Rattle.std.proofs.Common.{◌≡◌}
use Rattle.std.specs.BTreeSet.{contains}
use Rattle.std.specs.Ordering.{nat_cmp}
use Rattle.ame_weak.specs.View.{weak_of}
use Rattle.ame_runner.specs.Choices.{candidates_below}
use Rattle.ame_runner.proofs.choices.candidates.Given as goal

abbrev pub invariant-loop-number : goal.invariant-loop-number
invariant-loop-number l = l.numbers.items ≡ candidates_below l.number (weak_of l.state) (contains nat_cmp l.aside)
