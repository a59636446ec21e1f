-- The promises of a call.
use Rattle.std.specs.Prelude.{◌≡◌, ◌≢◌, ◌≤◌, ◌++◌, ℕ, List, map, length, All, Some, None, ⊤}
use Rattle.std.specs.Io.KnownBytes.{Appends}
use Rattle.ame_io.specs.Counts.{HasRisen}
use Rattle.ame_io.specs.Lines.{lines}
use Rattle.ame_io.specs.Writes.{AppendsFront}
use Rattle.ame_lex.specs.Bytes.{Text}
use Rattle.ame_term.specs.View.{typ_of}
use Rattle.ame_term.specs.Maps.{at}
use Rattle.ame_term.specs.State.{State}
use Rattle.ame_laws.specs.Typed.Listed.{signature_of}
use Rattle.ame_laws.specs.Typed.TypedState.{IsTyped}
use Rattle.ame_store.specs.declared.cell.Cell.{Cell}
use Rattle.ame_store.specs.Cells.{IsFree}
use Rattle.ame_journal.specs.declared.entry.Entry.{Entry}
use Rattle.ame_journal.specs.Replayed.{Replayed}
use Rattle.ame_journal.specs.Replay.{replay}
use Rattle.ame_machine.specs.RefSorts.{IsRefForm}
use Rattle.ame_protocol.specs.Row.Shown.{shown_cell}
use Rattle.ame_protocol.specs.Waits.Once.{IsNotedOnce}
use Rattle.ame_protocol.specs.Visits.Opened.{cell_of, stored_in}
use Rattle.ame_code.specs.FlatCode.{FlatCode}
use Rattle.ame_code.specs.Code.{program_of}
use Rattle.ame_value.specs.declared.val.Val.{Val}
use Rattle.ame_eval.specs.Values.{value_meant}
use Rattle.ame_cli.specs.declared.command.Options.{Options}
use Rattle.ame_cli.specs.declared.command.Command.{Command}
use Rattle.ame_protocol.specs.declared.types.Limits.{Limits}
use Rattle.ame_protocol.specs.Event.Bounds.{HasBounds}
use Rattle.ame_protocol.specs.Event.Causes.{NotesStop}
use Rattle.ame_protocol.specs.declared.stop.Stop.{Stop}
use Rattle.ame_engine.specs.Ending.{End, types_in, ShowsCounts}
use Rattle.ame_runner.specs.Apart.{AreNotedApart}
use Rattle.ame_shell.specs.Ends.{Ends}
use Rattle.ame_shell.specs.Heard.{HaveHeardSince, HaveFailed}
use Rattle.ame_shell.specs.Over.{AreOfSeats, NoneWereInTheWay}
use Rattle.ame_shell.specs.Ran.{IsRanBy}
use Rattle.ame_app.specs.declared.parts.Front.{Front}
use Rattle.ame_app.specs.declared.parts.ReportPart.{ReportPart}
use Rattle.ame_app.specs.declared.status.Status.{Status}
use Rattle.ame_app.specs.Reported.{RunView, Reported}
use Rattle.ame_app.specs.Verdict.{verdict}
use Rattle.ame_app.specs.Verbs.{options_of, BeginsFrom, Promises, written_behind}
use Rattle.ame_app.specs.Calls.{Call, Asks}
use Rattle.ame_app.specs.Texts.{IsProgramOf}
use Rattle.ame_app.specs.Causes.{RefusalCause, IsNamed, CommandCause, status_of}

-- the entries of a run, those from which it was opened first
abbrev pub journal_of : End Val → List Entry
journal_of end = end.base ++ end.entries

-- the live cells are the store of a state, no cell has an owner, and each has the number of a `ref` form of its sort
pub record IsStore (code : FlatCode) (cells : List (Cell Val)) (s : State) : Type 0 where
  pub stored : (l : ℕ) → at s.store l ≡ stored_in (cell_of (map (shown_cell (value_meant code)) cells) l)
  pub free : All IsFree cells
  pub forms : All (λ cell. IsRefForm (program_of code) cell.sort cell.ty.0) cells

-- The values stored and the members are typed. Each location has the sort of its cell, and the type of what the `ref` form with the cell's
-- number stores.
abbrev pub IsTypedState : FlatCode → List (Cell Val) → State → Type 0
IsTypedState code cells s =
    IsTyped (signature_of code.accepted) (types_in (map typ_of code.accepted.ref_tys.items) (map (shown_cell (value_meant code)) cells)) s

-- each device heard what the journal has after the entries from which the run was opened; none failed, except the one that the stop names
pub record DevicesTell (code : FlatCode) (end : End Val) (before after : Ends) : Type 0 where
  pub heard : HaveHeardSince (program_of code) end.base end.entries before.told after.told
  pub failed : HaveFailed end.stop before.told after.told

-- unless memory ran out, each device heard the journal's calls, and none failed except the one that the stop names
pub record DevicesTellIfAble (code : FlatCode) (end : End Val) (before after : Ends) : Type 0 where
  pub able : end.stop ≢ Some Stop.NoMemory → DevicesTell code end before after

-- each device heard the calls in the journal of a command's run; that isn't claimed of a weak run that ran out of memory
abbrev pub DevicesTellOf : Command → FlatCode → End Val → Ends → Ends → Type 0
DevicesTellOf (Command.Weak seed turns) code end before after = DevicesTellIfAble code end before after
DevicesTellOf command code end before after = DevicesTell code end before after

-- That a fragment waits is noted once until the next commit; in a weak run, also until a location is new.
abbrev pub IsNotedOnceBy : Command → List Entry → Type 0
IsNotedOnceBy (Command.Weak seed turns) journal = AreNotedApart journal
IsNotedOnceBy command journal = IsNotedOnce journal

-- The run of a command was made by events of an engine, from the entries with which it began to this end. A weak run has no such events.
abbrev pub IsRanOf : Command → FlatCode → Limits → End Val → Type 0
IsRanOf (Command.Weak seed turns) code limits end = ⊤
IsRanOf command code limits end = IsRanBy (program_of code) (signature_of code.accepted) limits end.base (value_meant code) end

-- the verdict line of a run
abbrev pub verdict_of : End Val → List ℕ
verdict_of end = verdict (status_of end)

-- A text was written, by the status of the call: all of it; after a fault of the sink, a prefix of it and nothing more.
pub record IsWritten (status : Status) (text : List ℕ) (before after : Ends) : Type 0 where
  pub whole : status ≢ Status.WriteFault → Appends before.written after.written text × (after.write_faults ≡ before.write_faults)
  pub front : status ≡ Status.WriteFault → AppendsFront before.written after.written text × HasRisen before.write_faults after.write_faults

-- the limits that the options ask for
abbrev pub limits_of : Options → Limits
limits_of options = record { turns = options.turns; slice = options.slice; seats = options.workers }

-- the limits are shown; if a weak run didn't run out of memory, its turns are within them
pub record IsLimited (limits : Limits) (end : End Val) : Type 0 where
  pub limited : end.limits ≡ limits
  pub most : end.stop ≢ Some Stop.NoMemory → end.turns ≤ limits.turns

-- the run of a command shows its limits and its turns; only an engine counts turns by their kinds
abbrev pub ShowsTurns : Command → Limits → End Val → Type 0
ShowsTurns (Command.Weak seed turns) limits end = IsLimited limits end
ShowsTurns command limits end = ShowsCounts limits end

-- The headline: the promises of a call in which a run was begun, for the run and its end, by what source, sink and devices show before and after.
pub record Headline (call : Call) (report : Reported) (run : RunView) (end : End Val) (before after : Ends) : Type 0 where
  pub command : Command
  pub front : Front
  pub options : Options
  pub text : Text
  pub compiled : FlatCode
  pub final : Replayed
  -- The code is that of the text that the words ask for, which is a program that the types accept.
  pub asked : Asks call command front text
  pub named : report.command ≡ Some command
  pub with_options : options_of command ≡ Some options
  pub text_is : report.text ≡ text
  pub program : IsProgramOf text call.devices compiled.accepted
  pub code_is : run.code ≡ compiled
  -- The journal begins as the command says. It replays from the program as one run of the strong semantics.
  pub begun : BeginsFrom command front (program_of compiled) end.base
  pub replays : replay (program_of compiled) (journal_of end) ≡ Some final
  pub seats : AreOfSeats options.workers end.entries
  -- The bytes written are the output of that run, a line each, and the verdict line. The state of that run is left and reported.
  pub output : IsWritten report.status (lines final.state.output ++ (verdict_of end ++ written_behind command run.left (status_of end))) before after
  pub printed : end.output ≡ final.state.output
  pub store : IsStore compiled end.cells final.state
  pub typed : IsTypedState compiled end.cells final.state
  pub as_many : length after.told ≡ length before.told
  pub devices : DevicesTellOf command compiled end before after
  -- The verdict is that of the stop, and has its cause; it is the status, unless the sink failed.
  pub cause : CommandCause command (status_of end) options end final before after
  pub spoken : report.status ≢ Status.WriteFault → report.status ≡ status_of end
  -- The run has what the command promises of its own.
  pub own : Promises command front compiled (limits_of options) before run.left
  -- Unless the run was weak, events of an engine led to its end, each when it might come.
  pub ran : IsRanOf command compiled (limits_of options) end
  -- The note of a fragment that was cut off, or that came to a value nested too deeply, is the last entry, and comes only with that stop. That a
  -- fragment waits is noted once until the next commit.
  pub notes : NotesStop end.stop end.entries
  pub once : IsNotedOnceBy command (journal_of end)
  -- The limits are those of the words. Each turn of an engine is counted by its kind, and the turns stay within their limit.
  pub shown : ShowsTurns command (limits_of options) end
  -- A lone worker meets no conflict and no invalid read.
  pub lone : options.workers ≡ 1 → NoneWereInTheWay end.counters
  -- Few answers rolled a fragment back, at most eight for each fragment that there ever was and for each entry, and few attempts left no
  -- entry. Turns that are used up were spent on entries and on attempts; a lone worker makes no such attempt.
  pub bounds : HasBounds (program_of compiled) (limits_of options) final end.base end.entries end.turns end.counters end.tried end.stop

-- Only the bytes before the verdict line and that line of a refusal were written. There is no run, and no device was called.
pub record IsToldAlone (ahead : List ℕ) (own : ReportPart) (told : Status) (report : Reported) (before after : Ends) : Type 0 where
  pub spoken : report.status ≢ Status.WriteFault → report.status ≡ told
  pub output : IsWritten report.status (ahead ++ verdict told) before after
  pub devices : after.told ≡ before.told
  pub nothing : report.run ≡ None
  pub own_is : report.own ≡ own

-- The promises of a call in which no run was begun: the status has its cause, and the report has the command.
pub record IsTurnedAway (call : Call) (report : Reported) (before after : Ends) : Type 0 where
  pub ahead : List ℕ
  pub own : ReportPart
  pub told : Status
  pub cause : RefusalCause call report.text ahead own told
  pub named : IsNamed call report.command told
  pub alone : IsToldAlone ahead own told report before after
