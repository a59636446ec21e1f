use Rattle.ame_weak.proofs.WeakFollowed.{weak_begins, weak_runs}
use Rattle.ame_weak.proofs.theorems.weak_runs_follow_the_rules.Goals as goal

pub returns-clause-begins : goal.returns-clause-begins
returns-clause-begins c = weak_begins

pub returns-clause-runs : goal.returns-clause-runs
returns-clause-runs c = weak_runs
