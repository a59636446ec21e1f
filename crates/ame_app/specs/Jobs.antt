-- Steps of a call for its private functions: what comes before a run, the run, and what is written after it.
use Rattle.std.specs.Prelude.{◌≡◌, ◌≢◌, ℕ, ℤ, ◌*◌, ◌≤◌, ◌++◌, ◌⊎◌, List, [], length, Option, Some, ⊤}
use Rattle.std.specs.Io.KnownBytes.{Appends}
use Rattle.ame_io.specs.Counts.{HasRisen}
use Rattle.ame_io.specs.Writes.{AppendsFront}
use Rattle.ame_io.specs.declared.whole_read.ReadAllFail.{ReadAllFail}
use Rattle.ame_io.specs.Lines.{lines}
use Rattle.ame_lex.specs.Bytes.{Text}
use Rattle.ame_lex.specs.declared.tokens.LexFault.{LexFault}
use Rattle.ame_parse.specs.declared.fault.ParseFault.{ParseFault}
use Rattle.ame_types.specs.declared.fault.TypesFail.{TypesFail}
use Rattle.ame_term.specs.Tree.{Tree}
use Rattle.ame_laws.specs.Typed.Listed.{signature_of}
use Rattle.ame_store.specs.declared.cell.Cell.{Cell}
use Rattle.ame_term.specs.State.{State}
use Rattle.ame_code.specs.FlatCode.{FlatCode}
use Rattle.ame_code.specs.Code.{program_of}
use Rattle.ame_value.specs.View.{flat_value}
use Rattle.ame_value.specs.declared.val.Val.{Val}
use Rattle.ame_eval.specs.Values.{value_meant}
use Rattle.ame_eval.specs.declared.fragment.Fragment.{Fragment}
use Rattle.ame_cli.specs.declared.command.CliFail.{CliFail}
use Rattle.ame_cli.specs.declared.command.Options.{Options}
use Rattle.ame_cli.specs.declared.command.Command.{Command}
use Rattle.ame_journal.specs.declared.entry.Entry.{Entry}
use Rattle.ame_journal.specs.JournalView.{IsFit}
use Rattle.ame_journal.specs.Replayed.{Replayed}
use Rattle.ame_journal.specs.Replay.{replay}
use Rattle.ame_journal.specs.Totals.{total_steps}
use Rattle.ame_engine.specs.Core.{Core}
use Rattle.ame_device.specs.declared.told.Told.{Told}
use Rattle.ame_protocol.specs.declared.types.Limits.{Limits}
use Rattle.ame_journal.specs.declared.certificate.Certificate.{Certificate}
use Rattle.ame_protocol.specs.declared.stop.Stop.{Stop}
use Rattle.ame_protocol.specs.Event.Causes.{IsTall, NotesStop}
use Rattle.ame_engine.specs.Ending.{End, CertifyAll}
use Rattle.ame_engine.specs.Resuming.{HasResumed}
use Rattle.ame_shell.specs.Ends.{Ends}
use Rattle.ame_shell.specs.Heard.{HaveHeard, HaveFailed}
use Rattle.ame_shell.specs.Over.{AreOfSeats, IsOver, IsOverSince}
use Rattle.ame_runner.specs.Apart.{AreNotedApart}
use Rattle.ame_runner.specs.declared.stop.WeakStop.{WeakStop}
use Rattle.ame_app.specs.declared.fault.TextFault.{TextFault}
use Rattle.ame_app.specs.declared.run_result.RunResult.{RunResult}
use Rattle.ame_app.specs.declared.run_result.WeakEnd.{WeakEnd}
use Rattle.ame_app.specs.declared.parts.Front.{Front}
use Rattle.ame_app.specs.declared.parts.ReportPart.{ReportPart}
use Rattle.ame_app.specs.declared.status.Status.{Status}
use Rattle.ame_app.specs.declared.verbs.Outlook.{Outlook}
use Rattle.ame_app.specs.Verbs.{Declines, Settles, options_of, BeginsFrom, Promises}
use Rattle.ame_app.specs.Verbs.Weak.{alone_with, IsWeakJournal, IsDrawnAs, StandsAtCallOf}
use Rattle.ame_app.specs.Calls.{Call, Asks}
use Rattle.ame_app.specs.Texts.{IsNoProgram, IsIllTyped, IsProgramOf}
use Rattle.ame_app.specs.Fragments.{fragments}
use Rattle.ame_app.specs.RunResult.{end_in}
use Rattle.ame_app.specs.Reported.{Reported}
use Rattle.ame_app.specs.Headline.{limits_of, IsStore, IsTypedState, IsToldAlone}

-- Failures before a run, as statuses

abbrev pub words_told : CliFail → Status
words_told CliFail.Usage = Status.Usage
words_told CliFail.NoMemory = Status.NoMemory

abbrev pub source_told : ReadAllFail → Status
source_told ReadAllFail.ReadFault = Status.ReadFault
source_told ReadAllFail.TooLong = Status.TooLong
source_told ReadAllFail.NoMemory = Status.NoMemory

abbrev pub bytes_told : LexFault → Status
bytes_told LexFault.NoMemory = Status.NoMemory
bytes_told fault = Status.Text (TextFault.Lexical fault)

abbrev pub tokens_told : ParseFault → Status
tokens_told ParseFault.NoMemory = Status.NoMemory
tokens_told fault = Status.Text (TextFault.Syntactic fault)

abbrev pub types_told : TypesFail → Status
types_told (TypesFail.Fault fault) = Status.Types fault
types_told TypesFail.TooLarge = Status.NoMemory
types_told TypesFail.NoMemory = Status.NoMemory

-- The job

-- the command doesn't take the bytes, and has this status for that, or memory ran out
abbrev pub IsUntaken : Command → List ℕ → Status → Type 0
IsUntaken command bytes told = Declines command bytes told ⊎ (told ≡ Status.NoMemory)

-- a command, what it takes before the text, and code of the text
pub record IsJobOf (call : Call) (text : Text) (code : FlatCode) (command : Command) (front : Front) : Type 0 where
  pub asked : Asks call command front text
  pub program : IsProgramOf text call.devices code.accepted

-- why there is no code of a text
abbrev pub IsTextStatus : Text → ℕ → Status → Type 0
IsTextStatus text devices (Status.Text fault) = IsNoProgram text fault
IsTextStatus text devices (Status.Types fault) = IsIllTyped text devices fault
IsTextStatus text devices Status.NoMemory = ⊤
IsTextStatus text devices _ = ⊥

-- Outlook of a job

-- entries lead from a program to a state
abbrev pub IsReplayable : Tree → List Entry → Type 0
IsReplayable program entries = (led : Replayed) × (replay program entries ≡ Some led)

-- an engine goes on with the code from entries
pub record IsEngineOn (options : Options) (base : List Entry) (code : FlatCode) (engine : Core FlatCode Val Fragment) : Type 0 where
  pub code_is : engine.code ≡ code
  pub resumed : HasResumed fragments (limits_of options) base engine

-- an engine goes on from its entries, and has done nothing yet
abbrev pub HasJustResumed : Core FlatCode Val Fragment → Type 0
HasJustResumed engine = HasResumed fragments engine.limits engine.base engine

-- an engine goes on with the code from the entries with which the run of a command begins
pub record IsOpened (command : Command) (front : Front) (code : FlatCode) (engine : Core FlatCode Val Fragment) : Type 0 where
  pub options : Options
  pub command_is : command ≡ Command.Resume options
  pub begun : BeginsFrom command front (program_of code) engine.base
  pub code_is : engine.code ≡ code
  pub limits_are : engine.limits ≡ limits_of options
  pub resumed : HasJustResumed engine

-- the command settles the program without a run, or a run goes on from an engine, or one begins with nothing
abbrev pub IsOutlook : Command → Front → FlatCode → Outlook → Type 0
IsOutlook command front code (Outlook.Told settled) = Settles command front (program_of code) settled.ahead.items settled.own settled.told
IsOutlook command front code (Outlook.GoesOn engine) = IsOpened command front code engine
IsOutlook command front code Outlook.Begins = ⊤

-- two values have the same plain data
abbrev pub are_alike : Val → Val → Type 0
are_alike v w = flat_value v ≡ flat_value w

-- The run

-- a run of code from its beginning, with these options, is over
abbrev pub IsOverWith : Options → FlatCode → Ends → End Val → Ends → Type 0
IsOverWith options code before end after = IsOver (program_of code) (signature_of code.accepted) (limits_of options) (value_meant code) before end after

-- a run that went on from an engine is over
abbrev pub IsOverResumed : Core FlatCode Val Fragment → Ends → End Val → Ends → Type 0
IsOverResumed engine before end after =
    IsOverSince engine.base (program_of engine.code) (signature_of engine.code.accepted) engine.limits (value_meant engine.code) before end after

-- a run that a command makes by an engine is over, and has kept what the command promises
pub record IsEngineRunMade (command : Command) (front : Front) (code : FlatCode) (before : Ends) (left : RunResult) (after : Ends) : Type 0 where
  pub options : Options
  pub with_options : options_of command ≡ Some options
  pub base : List Entry
  pub begun : BeginsFrom command front (program_of code) base
  pub over : IsOverSince base (program_of code) (signature_of code.accepted) (limits_of options) (value_meant code) before (end_in left) after
  pub own_is : Promises command front code (limits_of options) before left

-- the cause of the stop of a weak run, with its limit and its turns, in the state that is left
abbrev pub HasWeakStop : Stop → ℕ → WeakEnd → State → Type 0
HasWeakStop Stop.Finished limit weak s = s.members ≡ []
HasWeakStop Stop.Blocked limit weak s = CertifyAll s weak.certificates.items
HasWeakStop Stop.Spent limit weak s = (weak.turns ≡ limit) × (s.members ≢ [])
HasWeakStop (Stop.DeviceFault device) limit weak s = StandsAtCallOf s device
HasWeakStop (Stop.Tall number) limit weak s = IsTall number weak.journal.entries
HasWeakStop Stop.NoMemory limit weak s = ⊤
HasWeakStop stop limit weak s = ⊥

-- a weak run has a journal of its labels and attempts, its stop has a cause, and devices heard and failed accordingly
pub record TellsWeakly (program : Tree) (limit : ℕ) (weak : WeakEnd) (before after : List Told) : Type 0 where
  pub straight : IsWeakJournal program weak.labels.items weak.tries.items weak.journal.entries
  pub paid : weak.stop ≢ Stop.NoMemory → weak.turns ≤ 3 * total_steps weak.journal.entries
  pub within : weak.stop ≢ Stop.NoMemory → weak.turns ≤ limit
  pub final : Replayed
  pub replays : replay program weak.journal.entries ≡ Some final
  pub seats : AreOfSeats 1 weak.journal.entries
  pub cause : HasWeakStop weak.stop limit weak final.state
  pub notes : NotesStop (Some weak.stop) weak.journal.entries
  pub apart : AreNotedApart weak.journal.entries
  pub count : length after ≡ length before
  pub heard : weak.stop ≢ Stop.NoMemory → HaveHeard program weak.journal.entries before after
  pub failed : weak.stop ≢ Stop.NoMemory → HaveFailed (Some weak.stop) before after

-- cells and an output are those of a state
pub record IsLeftOf (code : FlatCode) (cells : List (Cell Val)) (output : List ℤ) (s : State) : Type 0 where
  pub store : IsStore code cells s
  pub typed : IsTypedState code cells s
  pub printed : output ≡ s.output

-- cells and output are those of the state to which entries lead
abbrev pub LeadsToLeft : FlatCode → List Entry → List (Cell Val) → List ℤ → Type 0
LeadsToLeft code entries cells output = (led : Replayed) → replay (program_of code) entries ≡ Some led → IsLeftOf code cells output led.state

-- a weak run has the store and the output to which its journal leads, and these limits
pub record HasLeft (code : FlatCode) (limits : Limits) (weak : WeakEnd) : Type 0 where
  pub limits_are : weak.limits ≡ limits
  pub leads : LeadsToLeft code weak.journal.entries weak.store weak.output.items

-- a weak run is over, and its lines aren't written yet
pub record IsWeakRunMade (seed turns : ℕ) (code : FlatCode) (before : Ends) (left : RunResult) (ahead : List ℕ) (after : Ends) : Type 0 where
  pub weak : WeakEnd
  pub left_is : left ≡ RunResult.Weak weak
  pub tells : TellsWeakly (program_of code) turns weak before.told after.told
  pub drawn : weak.stop ≢ Stop.NoMemory → IsDrawnAs (program_of code) seed turns weak
  pub has_left : HasLeft code (limits_of (alone_with turns)) weak
  pub ahead_is : ahead ≡ lines weak.output.items
  pub unwritten : after.written ≡ before.written
  pub unfailed : after.write_faults ≡ before.write_faults

-- the run of a command is over; if it was weak, these bytes are to be written before the verdict line
abbrev pub IsRunMade : Command → Front → FlatCode → Ends → RunResult → List ℕ → Ends → Type 0
IsRunMade (Command.Weak seed turns) front code before left ahead after = IsWeakRunMade seed turns code before left ahead after
IsRunMade command front code before left ahead after = IsEngineRunMade command front code before left after

-- no run was begun of a job: its command settles the program with this status, or memory ran out
pub record IsLeft (command : Command) (front : Front) (code : FlatCode) (report : Reported) (before after : Ends) : Type 0 where
  pub ahead : List ℕ
  pub own : ReportPart
  pub told : Status
  pub cause : Settles command front (program_of code) ahead own told ⊎ ((ahead ≡ []) × (own ≡ ReportPart.Nothing) × (told ≡ Status.NoMemory))
  pub named : report.command ≡ Some command
  pub alone : IsToldAlone ahead own told report before after

-- Stops of weak runs

-- the note that a stop leaves is one that a journal may have
abbrev pub LeavesFit : WeakStop → Type 0
LeavesFit (WeakStop.Tall entry) = IsFit entry
LeavesFit stop = ⊤

-- the witnesses of the members that are blocked then
abbrev pub certificates_told : WeakStop → List Certificate
certificates_told (WeakStop.Blocked certificates) = certificates.items
certificates_told stop = []

-- Output

-- a text was written whole, and the status is the one that was to be reported
pub record IsSpoken (told : Status) (text : List ℕ) (status : Status) (written : Option (List ℕ)) (faults : ℕ) (after : Option (List ℕ)) (faults_after : ℕ)
    : Type 0 where
  pub is : status ≡ told
  pub appended : Appends written after text
  pub stayed : faults_after ≡ faults

-- the text was written in part, and the sink failed
pub record IsCutShort (text : List ℕ) (status : Status) (written : Option (List ℕ)) (faults : ℕ) (after : Option (List ℕ)) (faults_after : ℕ)
    : Type 0 where
  pub is : status ≡ Status.WriteFault
  pub appended : AppendsFront written after text
  pub risen : HasRisen faults faults_after

-- the text was written whole, or it was cut short
abbrev pub Speaks : Status → List ℕ → Status → Option (List ℕ) → ℕ → Option (List ℕ) → ℕ → Type 0
Speaks told text status written faults after faults_after =
    IsSpoken told text status written faults after faults_after ⊎ IsCutShort text status written faults after faults_after

-- After the lines of a run a text was written, by the stop that its engine kept. Nothing was written if that stop is a fault of the sink.
abbrev pub SpeaksBehind : Option Stop → Status → List ℕ → Status → Option (List ℕ) → ℕ → Option (List ℕ) → ℕ → Type 0
SpeaksBehind (Some Stop.WriteFault) told text status written faults after faults_after =
    (status ≡ Status.WriteFault) × (after ≡ written) × (faults_after ≡ faults)
SpeaksBehind stop told text status written faults after faults_after = Speaks told text status written faults after faults_after

-- An engine's lines were written as it ran. Those of a weak run are written first.
abbrev pub SpeaksAfter : RunResult → List ℕ → Status → List ℕ → Status → Option (List ℕ) → ℕ → Option (List ℕ) → ℕ → Type 0
SpeaksAfter (RunResult.Engine end extra) ahead told text status written faults after faults_after =
    SpeaksBehind end.stop told text status written faults after faults_after
SpeaksAfter (RunResult.Weak weak) ahead told text status written faults after faults_after =
    Speaks told (ahead ++ text) status written faults after faults_after
