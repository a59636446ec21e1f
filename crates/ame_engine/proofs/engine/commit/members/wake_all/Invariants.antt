-- The locations that are left do to the pool now what all of them do to the one before.
use Rattle.std.proofs.Common.{◌≡◌, map, drop}
use Rattle.ame_protocol.specs.Engine.Events.{woken_for}
use Rattle.ame_engine.proofs.engine.commit.members.wake_all.Given as goal

abbrev pub invariant-loop-l : goal.invariant-loop-l
invariant-loop-l g l = woken_for (map (λ x. x.0) (drop l.l-index l.locs)) l.pool ≡ woken_for (map (λ x. x.0) l.locs) l.fn.pool
