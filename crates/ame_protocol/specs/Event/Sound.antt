-- The facts that each event keeps.
use Rattle.std.specs.Prelude.{◌≡◌, is_some}
use Rattle.ame_protocol.specs.Engine.Simulates.{Simulates}
use Rattle.ame_protocol.specs.Engine.Alone.{RunsExclusively}
use Rattle.ame_protocol.specs.Waits.Waiting.{AreWaiting}
use Rattle.ame_protocol.specs.Waits.Once.{AreNotedOnce}
use Rattle.ame_protocol.specs.Event.Bounds.{KeepsBounds}
use Rattle.ame_protocol.specs.Event.Causes.{HasCause}
use Rattle.ame_protocol.specs.Event.Counting.{CountsTurns}
use Rattle.ame_protocol.specs.Event.Lone.{IsLone}
use Rattle.ame_protocol.specs.Event.Rollbacks.{IsGoodPool}
use Rattle.ame_protocol.specs.Event.EngineState.{EngineState}
use Rattle.ame_protocol.specs.Event.Seated.{AreSeated}

-- The parts record whether a stop is kept, and stand for the state of the strong semantics to which the journal leads. No member was rolled
-- back more often than it may be, and a member that was rolled back that often runs alone. With one seat nothing is met that another seat
-- did. Rollbacks and attempts without an entry are few, and the turns are paid. Each waiting member has a note of its false condition, and
-- none is noted twice without a commit between. A kept stop has its cause. Each turn is counted by its kind. Each busy member is at work on
-- a seat.
pub record Sound (s : EngineState) : Type 0 where
  pub stopped : s.parts.stopped ≡ is_some s.stop
  pub stands : Simulates s.parts
  pub pool : IsGoodPool s.parts.pool
  pub alone : RunsExclusively s.parts
  pub lone : IsLone s.parts s.counters
  pub bounds : KeepsBounds s.stop s.counters s.parts
  pub waiting : AreWaiting s.parts
  pub once : AreNotedOnce s.parts
  pub caused : HasCause s.stop s.certificates s.parts
  pub counters : CountsTurns s.parts.turns s.counters
  pub seated : AreSeated s.parts
