-- A machine that is at the place of a seat's run.
use Rattle.std.specs.Prelude.{◌≡◌, ℕ, ◌+◌, Bool, true, false, Some}
use Rattle.ame_term.specs.declared.types.Loc.{Loc}
use Rattle.ame_term.specs.declared.types.Sort.{Sort}
use Rattle.ame_term.specs.declared.types.TyNo.{TyNo}
use Rattle.ame_rows.specs.MemoryView.{row_at}
use Rattle.ame_machine.specs.declared.wants.Wants.TheVariants as wants
use Rattle.ame_machine.specs.MachineView.{MachineView, OnRun}
use Rattle.ame_protocol.specs.declared.types.Attempt.{Attempt}
use Rattle.ame_protocol.specs.declared.types.Task.{Task}
use Rattle.ame_protocol.specs.Engine.Parts.{Parts, task_at, term_at, working}
use Rattle.ame_engine.specs.Core.{Core}
use Rattle.ame_engine.specs.Seen.{parts_of}
use Rattle.ame_machine.specs.Meaning.{Meaning}

-- Returns whether a task is a task of unprotected code.
abbrev pub is_free : Task → Bool
is_free (Task.Free attempt) = true
is_free _ = false

-- A stage is at a place at which the run of this seat's member has used all inputs. It counts the steps from the last valid check on.
pub record IsOnSeat (parts : Parts) (seat : ℕ) (s : MachineView) : Type 0 where
  pub attempt : Attempt
  pub has : working (task_at parts.tasks seat) ≡ Some attempt
  pub side : s.inside ≡ is_free (task_at parts.tasks seat)
  pub run : OnRun (term_at parts.pool attempt.tried.number) (row_at parts.memory.rows seat).inputs s
  pub since : s.steps ≡ s.since + attempt.tried.steps

-- Protected code has come to a read.
pub record IsReading (s : MachineView) : Type 0 where
  pub l : Loc
  pub wants : s.want ≡ Some (wants.Read l)
  pub outside : s.inside ≡ false

-- Protected code has come to a write.
pub record IsWriting (s : MachineView) : Type 0 where
  pub l : Loc
  pub wants : s.want ≡ Some (wants.Write l)
  pub outside : s.inside ≡ false

-- Protected code has come to an allocation.
pub record IsAllocating (s : MachineView) : Type 0 where
  pub sort : Sort
  pub number : TyNo
  pub wants : s.want ≡ Some (wants.Alloc sort number)
  pub outside : s.inside ≡ false

-- Protected code has come to a condition that is false.
pub record IsBlocking (s : MachineView) : Type 0 where
  pub wants : s.want ≡ Some wants.Block
  pub outside : s.inside ≡ false

module _ {C V M : Type 0} (meaning : Meaning C V M) where
  -- The machine is one of the code, and is at the place of the seat's run.
  pub record IsOn (core : Core C V M) (seat : ℕ) (m : M) : Type 0 where
    pub machine : meaning.is_machine core.code m
    pub stands : IsOnSeat (parts_of meaning core) seat (meaning.stage core.code m)
