-- The seats so far are idle.
use Rattle.std.proofs.Common.{◌≡◌, replicate}
use Rattle.ame_protocol.specs.declared.types.Task.{Task}
use Rattle.ame_engine.proofs.engine.start.idle_tasks.Given as goal

abbrev pub invariant-loop : goal.invariant-loop
invariant-loop l = l.tasks.items ≡ replicate l.counter Task.Idle
