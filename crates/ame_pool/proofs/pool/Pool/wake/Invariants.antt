use Rattle.std.proofs.Common.{◌≡◌}
use Rattle.ame_pool.proofs.Words.{woken}
use Rattle.ame_pool.proofs.WakeLemmas.{to_stir}
use Rattle.ame_pool.proofs.pool.Pool.wake.Given as goal

abbrev pub invariant-loop-number : goal.invariant-loop-number
invariant-loop-number g l = woken l.l.0 l.self ≡ woken l.l.0 l.initial.self

abbrev pub decreases-loop-number : goal.decreases-loop-number
decreases-loop-number g l = to_stir l.l.0 l.self.members
