-- The needs of a turn, and its effect on a shell.
use Rattle.std.specs.Prelude.{◌≡◌, ◌≢◌, ℕ, ◌+◌, ◌<◌, ◌≤◌, Bool, true, false, length, drop, Option, Some, None}
use Rattle.std.specs.Io.KnownBytes.{Appends}
use Rattle.ame_io.specs.Counts.{HasRisen}
use Rattle.ame_io.specs.Lines.{lines}
use Rattle.ame_io.specs.Writes.{AppendsFirst}
use Rattle.ame_machine.specs.MachineView.{MachineView}
use Rattle.ame_protocol.specs.declared.stop.Stop.{Stop}
use Rattle.ame_engine.specs.Core.{Core}
use Rattle.ame_engine.specs.Stops.{stopped_by}
use Rattle.ame_engine.specs.Whole.{AreLimits}
use Rattle.ame_shell.specs.declared.work.Outcome.{Outcome}
use Rattle.ame_shell.specs.Outcomes.{IsDone}
use Rattle.ame_shell.specs.declared.work.Work.{Work}
use Rattle.ame_shell.specs.Shell.{ShellView, Opening, IsShell}
use Rattle.ame_shell.specs.Work.{Fits}
use Rattle.ame_machine.specs.Meaning.{Meaning}

module _ {C V M : Type 0} where
  -- The rest of the text is sent; or the sink failed after its first bytes, and that stop is kept.
  pub data HasFlushed (old new : ShellView C V M) : Type 0 where
    sends : Appends old.ends.written new.ends.written (drop old.sent (lines old.core.output)) → new.ends.write_faults ≡ old.ends.write_faults
        → new.core ≡ old.core → new.sent ≡ length (lines old.core.output) → HasFlushed old new
    fails : (gone : ℕ) → AppendsFirst gone old.ends.written new.ends.written (drop old.sent (lines old.core.output))
        → gone < length (drop old.sent (lines old.core.output)) → HasRisen old.ends.write_faults new.ends.write_faults
        → new.core ≡ stopped_by Stop.WriteFault old.core → new.sent ≡ old.sent + gone → HasFlushed old new

-- whether lines may come of what a seat did
abbrev pub is_to_flush : Outcome → Bool
is_to_flush Outcome.Ended = true
is_to_flush Outcome.Left = true
is_to_flush Outcome.CameHome = true
is_to_flush _ = false

-- the member that a seat had at work, or otherwise the one that it has now
abbrev pub member_told : Option ℕ → Option ℕ → Option ℕ
member_told (Some number) after = Some number
member_told None after = after

module _ {C V M : Type 0} (meaning : Meaning C V M) where
  -- The code is the engine's, and its limits are in range. There are devices enough, and no more was sent than there is.
  pub record IsShellInOrder (code : C) (shell : ShellView C V M) : Type 0 where
    pub same : code ≡ shell.core.code
    pub limits : AreLimits shell.core.limits
    pub enough : (meaning.signature shell.core.code).devices ≤ length shell.ends.told
    pub within : shell.sent ≤ length (lines shell.core.output)

  -- A seat may have its turn: the shell is in order, it has this seat, and the seat's work in flight fits.
  pub record MayTurn (code : C) (seat : ℕ) (shell : ShellView C V M) (work : Work M) : Type 0 where
    pub order : IsShellInOrder code shell
    pub there : seat < shell.core.limits.seats
    pub fits : Fits meaning shell.core seat work

  -- A seat has had turns. The shell is as its opening says, with the same limits, and the seat may turn again, with what it has in flight
  -- now. The work in flight of other seats fits still.
  pub record LeavesInOrder (code : C) (seat : ℕ) (old new : ShellView C V M) (work : Work M) : Type 0 where
    pub keeps : (opening : Opening C) → IsShell meaning opening old → IsShell meaning opening new
    pub may : MayTurn code seat new work
    pub limits : new.core.limits ≡ old.core.limits
    pub others : (other : ℕ) (rest : Work M) → other ≢ seat → Fits meaning old.core other rest → Fits meaning new.core other rest

  -- A seat has made its event, in which devices alone of the ends had a part, and the lines that came of it were sent.
  pub record HasTurned (seat : ℕ) (hand : Option MachineView) (old new : ShellView C V M) (outcome : Outcome) : Type 0 where
    pub core : Core C V M
    pub done : IsDone meaning seat hand old.core core old.ends.told new.ends.told outcome
    pub flushes : is_to_flush outcome ≡ true → HasFlushed (record { core = core; sent = old.sent; ends = record old.ends { told = new.ends.told } }) new
    pub stays : is_to_flush outcome ≡ false → new ≡ record { core = core; sent = old.sent; ends = record old.ends { told = new.ends.told } }
