-- A seat's work in flight, next to the engine.
use Rattle.std.specs.Prelude.{◌≡◌, ◌≤◌, ◌<◌, ℕ, false, Option, Some, None, is_some, IsSome, IsTrue}
use Rattle.ame_machine.specs.MachineView.{MachineView}
use Rattle.ame_protocol.specs.declared.types.Task.{Task}
use Rattle.ame_protocol.specs.Engine.Parts.{task_at, attempt_of}
use Rattle.ame_engine.specs.Core.{Core}
use Rattle.ame_engine.specs.AtWork.{IsOn}
use Rattle.ame_engine.specs.Seen.{parts_of}
use Rattle.ame_protocol.specs.Event.Undoing.{is_undoing}
use Rattle.ame_shell.specs.declared.work.Work.{Work}
use Rattle.ame_shell.specs.declared.work.Work.TheVariants as work
use Rattle.ame_machine.specs.Meaning.{Meaning}
use Rattle.ame_shell.specs.Low.{MachineGoesLow}

-- the stage of a seat's machine, if it has one
abbrev pub stage_at : {C M : Type 0} → (C → M → MachineView) → C → Work M → Option MachineView
stage_at stage code work.Idle = None
stage_at stage code (work.Running m) = Some (stage code m)
stage_at stage code work.Undoing = None

module _ {C V M : Type 0} where
  -- a seat has a member at work, and undoes it unless a stop is kept
  pub record CanUndo (core : Core C V M) (seat : ℕ) : Type 0 where
    pub busy : IsSome (attempt_of (task_at core.tasks seat))
    pub undoes : is_some core.stop ≡ false → IsTrue (is_undoing (task_at core.tasks seat))

module _ {C V M : Type 0} (meaning : Meaning C V M) where
  -- A machine stands on the run of its seat, and has made no more steps than its slice since it was checked. None of its steps
  -- was at a form that would become a value nested too deeply.
  pub record IsAtWork (core : Core C V M) (seat : ℕ) (m : M) : Type 0 where
    pub on : IsOn meaning core seat m
    pub within : (meaning.stage core.code m).since ≤ core.limits.slice
    pub low : MachineGoesLow (parts_of meaning core) seat on.stands.attempt (meaning.stage core.code m) (meaning.stage core.code m).steps

  -- it is idle, or its machine stands on its run, or it can undo
  abbrev pub Fits : Core C V M → ℕ → Work M → Type 0
  Fits core seat work.Idle = task_at core.tasks seat ≡ Task.Idle
  Fits core seat (work.Running m) = IsAtWork core seat m
  Fits core seat work.Undoing = CanUndo core seat

  -- A machine has its turn: it is at work, no stop is kept, and turns are left.
  pub record HasTurn (core : Core C V M) (seat : ℕ) (m : M) : Type 0 where
    pub at : IsAtWork core seat m
    pub going : core.stop ≡ None
    pub left : core.turns < core.limits.turns
