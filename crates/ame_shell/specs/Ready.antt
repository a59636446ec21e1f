-- The work before a turn: machines make steps.
use Rattle.std.specs.Prelude.{◌≡◌, ℕ, ◌+◌, ◌-◌, ◌^◌, ◌≤◌, ◌<◌, Some}
use Rattle.ame_machine.specs.declared.wants.Wants.{Wants}
use Rattle.ame_machine.specs.declared.wants.Wants.TheVariants as wants
use Rattle.ame_machine.specs.MachineView.{MachineView}
use Rattle.ame_machine.specs.Move.{AdvancesWithin}
use Rattle.ame_machine.specs.Sound.{CanRun}
use Rattle.ame_shell.specs.declared.work.Work.{Work}
use Rattle.ame_shell.specs.declared.work.Work.TheVariants as work

-- A machine is ready for its turn: it wants something, and if that is fuel it has made a slice of steps.
pub record IsReady (slice : ℕ) (s : MachineView) : Type 0 where
  pub want : Wants
  pub told : s.want ≡ Some want
  pub full : want ≡ wants.OutOfFuel → (slice ≤ s.since) × (0 < s.since)

module _ {C M : Type 0} (is_machine : C → M → Type 0) (stage : C → M → MachineView) (code : C) (slice : ℕ) where
  -- a machine of the code can make steps until its slice is full
  pub record CanGoOn (m : M) : Type 0 where
    pub machine : is_machine code m
    pub runs : CanRun (stage code m)
    pub few : (stage code m).steps + (slice - (stage code m).since) < 2 ^ 64

  -- it has made steps alone, within its slice
  pub record HasAdvanced (old new : M) : Type 0 where
    pub machine : is_machine code new
    pub ran : AdvancesWithin (slice - (stage code old).since) (stage code old) (stage code new)

  -- so it is if a seat has a machine
  abbrev pub CanBePrepared : Work M → Type 0
  CanBePrepared (work.Running m) = CanGoOn m
  CanBePrepared _ = Unit {0}

  abbrev pub IsPrepared : Work M → Work M → Type 0
  IsPrepared work.Idle work.Idle = Unit {0}
  IsPrepared (work.Running old) (work.Running new) = HasAdvanced old new
  IsPrepared work.Undoing work.Undoing = Unit {0}
  IsPrepared _ _ = ⊥

module _ {C M : Type 0} (stage : C → M → MachineView) (code : C) (slice : ℕ) where
  -- the machine of a seat is ready
  abbrev pub IsReadyWork : Work M → Type 0
  IsReadyWork (work.Running m) = IsReady slice (stage code m)
  IsReadyWork _ = Unit {0}
