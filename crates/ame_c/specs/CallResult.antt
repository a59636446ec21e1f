-- The answer that a caller gets to a run.
use Rattle.std.specs.Prelude.{◌≡◌, ◌⊎◌, ℕ, List, [], All, Option, Some, None}
use Rattle.ame_lex.specs.Bytes.{Text}
use Rattle.ame_journal.specs.declared.entry.Entry.{Entry}
use Rattle.ame_journal.specs.JournalView.{IsFit}
use Rattle.ame_sim.specs.Picks.{picks_of}
use Rattle.ame_sim.specs.Questions.{seats_of}
use Rattle.ame_sim.specs.Schedule.{IsScheduled}
use Rattle.ame_cli.specs.declared.command.Options.{Options}
use Rattle.ame_cli.specs.Ranges.{IsInRange}
use Rattle.ame_shell.specs.Ends.{Ends}
use Rattle.ame_views.specs.Input.{IsCertificateInput}
use Rattle.ame_app.specs.declared.alone.Alone.{Alone}
use Rattle.ame_app.specs.declared.run_result.Extra.{Extra}
use Rattle.ame_app.specs.declared.run_result.RunResult.{RunResult}
use Rattle.ame_app.specs.declared.status.Status.{Status}
use Rattle.ame_app.specs.Alone.{command_of}
use Rattle.ame_app.specs.Answered.{IsPromised}
use Rattle.ame_app.specs.Calls.{Call, IsCallOf}
use Rattle.ame_app.specs.RunResult.{end_in}
use Rattle.ame_app.specs.Reported.{RunView, Reported}
use Rattle.ame_app.specs.Verdict.{verdict}
use Rattle.ame_c.specs.declared.whole.RunLimits.{RunLimits}
use Rattle.ame_c.specs.declared.whole.Whole.{Whole}
use Rattle.ame_c.specs.Devices.{device_count, new_ends}
use Rattle.ame_c.specs.Out.{IsTold, IsHandedOut}

-- the options that limits are
abbrev pub options_of : RunLimits → Options
options_of limits = record { workers = limits.workers; turns = limits.turns; slice = limits.slice }

-- three texts: lines, a certificate, and a schedule with its program
pub record Texts : Type 0 where
  pub lines : List ℕ
  pub certificate : List ℕ
  pub schedule : List ℕ

abbrev pub texts : List ℕ → List ℕ → List ℕ → Texts
texts lines certificate schedule = record { lines = lines; certificate = certificate; schedule = schedule }

-- the journal of the entries with the text of their program; nothing, if an entry may stand in no journal
abbrev pub IsCertificateOf : List Entry → Text → List ℕ → Type 0
IsCertificateOf entries text bytes = IsCertificateInput bytes entries text ⊎ ((All IsFit entries → ⊥) × (bytes ≡ []))

-- that of a run, if one was begun
abbrev pub Certifies : Option RunView → Text → List ℕ → Type 0
Certifies None text bytes = bytes ≡ []
Certifies (Some run) text bytes = IsCertificateOf (end_in run.left).entries text bytes

-- the schedule of the picks with the text of their program, of a run that has picks
abbrev pub IsScheduleOf : RunResult → Text → List ℕ → Type 0
IsScheduleOf (RunResult.Engine end (Extra.Picked mades)) text bytes = IsScheduled bytes (seats_of (picks_of mades)) text
IsScheduleOf _ text bytes = bytes ≡ []

abbrev pub Schedules : Option RunView → Text → List ℕ → Type 0
Schedules None text bytes = bytes ≡ []
Schedules (Some run) text bytes = IsScheduleOf run.left text bytes

-- the status of a call whose lines stay in memory, by that of its report: they are cut short only when memory runs out
abbrev pub told_of : Status → Status
told_of Status.WriteFault = Status.NoMemory
told_of status = status

-- The command was done with these bytes, new devices and no lines yet, as is promised of each call of `ame` whose words spell it and whose
-- source had these bytes. The lines are what it wrote; certificate and schedule are those of its run.
pub record IsCallResult (command : Alone) (bytes : List ℕ) (told : Status) (made : Texts) : Type 0 where
  pub report : Reported
  pub after : Ends
  pub promised : (call : Call) → IsCallOf call (command_of command) bytes device_count → IsPromised call report new_ends after
  pub told_is : told ≡ told_of report.status
  pub lines_are : after.written ≡ Some made.lines
  pub certificate_is : Certifies report.run report.text made.certificate
  pub schedule_is : Schedules report.run report.text made.schedule

-- a number isn't one that the command may have, or memory ran out
abbrev pub IsNoResult : Alone → Status → Type 0
IsNoResult command told = ((IsInRange (command_of command) → ⊥) × (told ≡ Status.Usage)) ⊎ (told ≡ Status.NoMemory)

-- the command was done; or it wasn't, and there is only the line of the status
abbrev pub TellsMade : Alone → List ℕ → Status → Texts → Type 0
TellsMade command bytes told made = IsCallResult command bytes told made ⊎ ((made ≡ texts (verdict told) [] []) × IsNoResult command told)

-- the answer to a weak run
pub record AnswersWeak (command : Alone) (bytes : List ℕ) (rooms lefts : Texts) (status : ℕ) (whole : Whole) : Type 0 where
  pub told : Status
  pub made : Texts
  pub tells : TellsMade command bytes told made
  pub is_told : IsTold told status whole.number
  pub lines : IsHandedOut made.lines rooms.lines lefts.lines whole.lines
  pub certificate : IsHandedOut made.certificate rooms.certificate lefts.certificate whole.certificate
  pub no_schedule : whole.schedule ≡ 0

-- the answer to a run with a schedule
pub record AnswersRun (command : Alone) (bytes : List ℕ) (rooms lefts : Texts) (status : ℕ) (whole : Whole) : Type 0 where
  pub told : Status
  pub made : Texts
  pub tells : TellsMade command bytes told made
  pub is_told : IsTold told status whole.number
  pub lines : IsHandedOut made.lines rooms.lines lefts.lines whole.lines
  pub certificate : IsHandedOut made.certificate rooms.certificate lefts.certificate whole.certificate
  pub schedule : IsHandedOut made.schedule rooms.schedule lefts.schedule whole.schedule
