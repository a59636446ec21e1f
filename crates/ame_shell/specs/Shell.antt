-- An engine with its sink and its devices, from its opening on.
use Rattle.std.specs.Prelude.{◌≡◌, ℕ, ◌<◌, List, length, Option, Some}
use Rattle.ame_io.specs.Counts.{HasRisen}
use Rattle.ame_io.specs.Lines.{lines}
use Rattle.ame_io.specs.Writes.{AppendsFirst}
use Rattle.ame_term.specs.Tree.{Tree}
use Rattle.ame_device.specs.declared.told.Told.{Told}
use Rattle.ame_journal.specs.declared.entry.Entry.{Entry}
use Rattle.ame_protocol.specs.declared.types.Limits.{Limits}
use Rattle.ame_protocol.specs.declared.stop.Stop.{Stop}
use Rattle.ame_protocol.specs.Event.Event.{Event}
use Rattle.ame_protocol.specs.Event.Runs.{Follows}
use Rattle.ame_protocol.specs.Event.EngineState.{EngineState}
use Rattle.ame_machine.specs.Meaning.{Meaning}
use Rattle.ame_engine.specs.Core.{Core}
use Rattle.ame_engine.specs.Ending.{End}
use Rattle.ame_engine.specs.Makes.{state_of}
use Rattle.ame_shell.specs.Low.{GoLow}
use Rattle.ame_shell.specs.Ran.{IsStart}
use Rattle.ame_shell.specs.Ends.{Ends}
use Rattle.ame_shell.specs.Heard.{HaveHeardSince, HaveFailed}
use Rattle.ame_shell.specs.declared.shell.Shell.{Shell}
use Rattle.ame_shell.specs.Over.{AreOfSeats, IsOverSince}

-- Contracts see of a shell its engine, how many bytes of the text were sent, and what sink and devices show.
pub record ShellView (C V M : Type 0) : Type 0 where
  pub core : Core C V M
  pub sent : ℕ
  pub ends : Ends

abbrev pub shell_view : {M K D C V : Type 0} → Shell M K D C V → ShellView C V M
shell_view shell = record { core = shell.engine; sent = shell.sent; ends = shell.io.ends }

-- how it was opened: the code, the limits, the entries that were made before, and what the ends showed
pub record Opening (C : Type 0) : Type 0 where
  pub code : C
  pub limits : Limits
  pub base : List Entry
  pub ends : Ends

-- Unless the sink failed, a text is sent to its end. If it failed, some of it isn't.
abbrev pub GoesTo : Option Stop → ℕ → List ℕ → ℕ → ℕ → Type 0
GoesTo (Some Stop.WriteFault) sent text faults now = (sent < length text) × HasRisen faults now
GoesTo _ sent text faults now = (sent ≡ length text) × (now ≡ faults)

-- This number of bytes of a text were sent since the opening, by the stop that is kept.
pub record IsSentSince (opened now : Ends) (stop : Option Stop) (sent : ℕ) (text : List ℕ) : Type 0 where
  pub first : AppendsFirst sent opened.written now.written text
  pub goes : GoesTo stop sent text opened.write_faults now.write_faults

module _ {C V M : Type 0} (program : C → Tree) where
  -- Code, limits and base are those of the opening, and each entry is of one of its seats. Each device has heard what the journal
  -- says after the base, and none failed unless that stop is kept.
  pub record IsOpenedSo (opening : Opening C) (core : Core C V M) (told : List Told) : Type 0 where
    pub code : core.code ≡ opening.code
    pub limits : core.limits ≡ opening.limits
    pub base : core.base ≡ opening.base
    pub seats : AreOfSeats core.limits.seats core.entries
    pub heard : HaveHeardSince (program core.code) core.base core.entries opening.ends.told told
    pub failed : HaveFailed core.stop opening.ends.told told

module _ {C V M : Type 0} (meaning : Meaning C V M) where
  -- Events led to an engine from a state from which a run may go on from the base, each when it may come. None of their steps was at
  -- a form that would become a value nested too deeply.
  pub record HasRun (opening : Opening C) (core : Core C V M) : Type 0 where
    pub start : EngineState
    pub starts : IsStart (meaning.program opening.code) (meaning.signature opening.code) opening.limits opening.base start
    pub events : List Event
    pub follows : Follows start events (state_of meaning core)
    pub low : GoLow start events

  -- A run is over that went on from this opening, and its ends show this then.
  abbrev pub IsOverFrom : Opening C → End V → Ends → Type 0
  IsOverFrom opening end after =
      IsOverSince opening.base (meaning.program opening.code) (meaning.signature opening.code) opening.limits (meaning.value_of opening.code) opening.ends end after

  -- So it is of a shell, and the lines of what was printed are sent.
  pub record IsShell (opening : Opening C) (shell : ShellView C V M) : Type 0 where
    pub opened : IsOpenedSo meaning.program opening shell.core shell.ends.told
    pub sends : IsSentSince opening.ends shell.ends shell.core.stop shell.sent (lines shell.core.output)
    pub ran : HasRun opening shell.core
