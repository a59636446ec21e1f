use Rattle.ame_calculus.proofs.WeakLemmas.{strong-is-weak, strong-is-weak-now}
use Rattle.ame_calculus.proofs.weak.strong_runs_are_weak.Goals as goal

pub returns-clause-runs : goal.returns-clause-runs
returns-clause-runs c = λ program labels s e idle. (strong-is-weak program labels s e idle).0

pub returns-clause-calls : goal.returns-clause-calls
returns-clause-calls c = λ program labels s device e idle. (strong-is-weak program labels s e idle).1 device

pub returns-clause-under_way : goal.returns-clause-under_way
returns-clause-under_way c = strong-is-weak-now
