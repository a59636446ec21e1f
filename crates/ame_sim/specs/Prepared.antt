-- The machine of a seat when its turn comes.
use Rattle.std.specs.Prelude.{◌≡◌, ℕ, ◌≤◌, Option, Some, IsSome}
use Rattle.ame_machine.specs.MachineView.{MachineView}
use Rattle.ame_machine.specs.Sound.{IsSoundStage}
use Rattle.ame_protocol.specs.Engine.Parts.{Parts, task_at, working}
use Rattle.ame_engine.specs.AtWork.{IsOnSeat}
use Rattle.ame_shell.specs.Low.{MachineGoesLow}
use Rattle.ame_shell.specs.Ready.{IsReady}

-- A seat's machine is prepared. It stands on the seat's run, within its slice, and is ready for its turn. It wants what it needs there.
-- No step of the run was at a form that would become a value nested too deeply.
pub record IsPreparedStage (parts : Parts) (seat : ℕ) (s : MachineView) : Type 0 where
  pub stands : IsOnSeat parts seat s
  pub within : s.since ≤ parts.limits.slice
  pub ready : IsReady parts.limits.slice s
  pub sound : IsSoundStage s
  pub low : MachineGoesLow parts seat stands.attempt s s.steps

-- A seat that runs code has its machine prepared, and a seat that doesn't has none.
pub record IsPreparedHand (parts : Parts) (seat : ℕ) (hand : Option MachineView) : Type 0 where
  pub there : IsSome (working (task_at parts.tasks seat)) → IsSome hand
  pub prepared : (s : MachineView) → hand ≡ Some s → IsPreparedStage parts seat s
