use Rattle.std.proofs.Common.{◌≡◌, ◌<◌, ℕ, IsSome}
use Rattle.ame_protocol.specs.declared.types.Task.{Task}
use Rattle.ame_protocol.specs.Engine.Parts.{task_at}
use Rattle.ame_shell.specs.Shell.{Opening, IsShell}
use Rattle.ame_sim.specs.Crew.{IsUnwound}
use Rattle.ame_sim.proofs.crew.Crew.unwind_all.Given as goal

abbrev pub invariant-loop-seat : goal.invariant-loop-seat
invariant-loop-seat g l = record {
  stopped : IsSome l.self.core.stop;
  unwound : IsUnwound l.fn.self.core l.self.core;
  idle : (seat : ℕ) → seat < l.seat → task_at l.self.core.tasks seat ≡ Task.Idle;
  keeps : (opening : Opening _) → IsShell g.M.Runner.meaning opening l.fn.self → IsShell g.M.Runner.meaning opening l.self;
}
