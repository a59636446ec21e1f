use Rattle.std.proofs.Common.{◌≡◌, ◌+◌, length}
use Rattle.ame_weak.specs.View.{weak_of}
use Rattle.ame_runner.specs.Trial.{IsTrial}
use Rattle.ame_runner.proofs.trial.try_member.Given as goal

abbrev pub invariant-loop-used : goal.invariant-loop-used
invariant-loop-used l = record {
  is : IsTrial (weak_of l.state) l.number l.fn.above.0 (weak_of l.trial.state) l.trial.kinds.items l.trial.above;
  count : length l.trial.kinds.items + 1 ≡ l.used;
}
