use Rattle.std.proofs.Common.{◌≡◌, ◌<◌, ℕ, IsSome}
use Rattle.ame_protocol.specs.declared.types.Task.{Task}
use Rattle.ame_protocol.specs.Engine.Parts.{task_at}
use Rattle.ame_shell.specs.Shell.{Opening, IsShell}
use Rattle.ame_sim.specs.Crew.{IsUnwound, left_to_undo}
use Rattle.ame_sim.proofs.crew.Crew.unwind.Given as goal

abbrev pub invariant-loop-self : goal.invariant-loop-self
invariant-loop-self g l = record {
  seat : l.seat < l.self.core.limits.seats;
  stopped : IsSome l.self.core.stop;
  unwound : IsUnwound l.fn.self.core l.self.core;
  others : (other : ℕ) → task_at l.fn.self.core.tasks other ≡ Task.Idle → task_at l.self.core.tasks other ≡ Task.Idle;
  keeps : (opening : Opening _) → IsShell g.M.Runner.meaning opening l.fn.self → IsShell g.M.Runner.meaning opening l.self;
}

abbrev pub decreases-loop-self : goal.decreases-loop-self
decreases-loop-self g l = left_to_undo l.self.core l.seat
