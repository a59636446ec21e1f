-- Why a call ends with a status.
use Rattle.std.specs.Prelude.{◌≡◌, ◌≢◌, ◌⊎◌, ℕ, ◌≤◌, true, false, List, [], Option, Some, None, length, ⊤}
use Rattle.ame_io.specs.Counts.{HasRisen}
use Rattle.ame_io.specs.Reads.{whole_limit, GivesMoreThan}
use Rattle.ame_lex.specs.Bytes.{Text}
use Rattle.ame_term.specs.State.{State}
use Rattle.ame_value.specs.declared.val.Val.{Val}
use Rattle.ame_cli.specs.declared.command.Options.{Options}
use Rattle.ame_cli.specs.declared.command.Command.{Command}
use Rattle.ame_cli.specs.Grammar.{SpellsCommand, SpellsNothing}
use Rattle.ame_types.specs.declared.fault.TypeFault.{TypeFault}
use Rattle.ame_protocol.specs.declared.stop.Stop.{Stop}
use Rattle.ame_journal.specs.declared.certificate.Certificate.{Certificate}
use Rattle.ame_journal.specs.Replayed.{Replayed}
use Rattle.ame_protocol.specs.Event.Causes.{IsTall}
use Rattle.ame_protocol.specs.Event.Faults.{ComesToCall}
use Rattle.ame_engine.specs.Ending.{End, CertifyAll}
use Rattle.ame_shell.specs.Ends.{Ends, told_at}
use Rattle.ame_app.specs.declared.fault.TextFault.{TextFault}
use Rattle.ame_app.specs.declared.parts.Front.{Front}
use Rattle.ame_app.specs.declared.parts.ReportPart.{ReportPart}
use Rattle.ame_app.specs.declared.status.Status.{Status}
use Rattle.ame_app.specs.Verbs.{reads_source, Declines, Settles}
use Rattle.ame_app.specs.Verbs.Weak.{IsWeakFault}
use Rattle.ame_app.specs.Calls.{Call, IsInput, Asks}
use Rattle.ame_app.specs.Texts.{IsNoProgram, IsIllTyped, IsAcceptedText}

-- Calls without a run

-- the words spell no command, and the source wasn't touched
pub record IsUsage (call : Call) : Type 0 where
  pub words : SpellsNothing call.words
  pub source : call.source_after ≡ call.source

-- the words spell a command that reads its source
pub record IsReader (call : Call) : Type 0 where
  pub command : Command
  pub spelled : SpellsCommand call.words command
  pub reads : reads_source command ≡ true

-- the source was to be read, and failed, or its count stands at its last value
pub record IsReadFault (call : Call) : Type 0 where
  pub reader : IsReader call
  pub faults : HasRisen call.source.faults call.source_after.faults

-- the source was to be read, and gave more bytes than one may have
pub record IsTooLong (call : Call) : Type 0 where
  pub reader : IsReader call
  pub given : GivesMoreThan whole_limit call.source.left call.source_after.left
  pub faults : call.source_after.faults ≡ call.source.faults

-- the command doesn't take the bytes of the source, and has this status for that
pub record IsDeclined (call : Call) (told : Status) : Type 0 where
  pub command : Command
  pub spelled : SpellsCommand call.words command
  pub bytes : List ℕ
  pub input : IsInput (reads_source command) call.source call.source_after bytes
  pub most : length bytes ≤ whole_limit
  pub declines : Declines command bytes told

-- the text that was asked for is no program
pub record IsUnreadable (call : Call) (text : Text) (fault : TextFault) : Type 0 where
  pub command : Command
  pub front : Front
  pub asked : Asks call command front text
  pub cause : IsNoProgram text fault

-- the text that was asked for is a program that the types refuse
pub record IsRefusedByTypes (call : Call) (text : Text) (fault : TypeFault) : Type 0 where
  pub command : Command
  pub front : Front
  pub asked : Asks call command front text
  pub cause : IsIllTyped text call.devices fault

-- the text that was asked for is a program, which the command settles with this status, without a run
pub record IsSettled (call : Call) (text : Text) (ahead : List ℕ) (own : ReportPart) (told : Status) : Type 0 where
  pub command : Command
  pub front : Front
  pub asked : Asks call command front text
  pub accepted : IsAcceptedText text call.devices
  pub settles : Settles command front accepted.source.tree ahead own told

-- memory ran out, and the source didn't fail; a source that isn't read wasn't touched
pub record IsWithoutMemory (call : Call) : Type 0 where
  pub faults : call.source_after.faults ≡ call.source.faults
  pub untouched : (command : Command) → SpellsCommand call.words command → reads_source command ≡ false → call.source_after ≡ call.source

-- the text is the one that the words ask for, or no text was taken
abbrev pub IsAskedOrNone : Call → Text → Type 0
IsAskedOrNone call text = (text ≡ []) ⊎ ((command : Command) × (front : Front) × Asks call command front text)

-- Why no run was begun, a case a cause. The text is that of the report, and is empty if none was taken. The bytes are those that are written
-- before the verdict line. The last part is what the report has of the command's own.
pub data RefusalCause (call : Call) (text : Text) : List ℕ → ReportPart → Status → Type 0 where
  by_words : text ≡ [] → IsUsage call → RefusalCause call text [] ReportPart.Nothing Status.Usage
  by_source : text ≡ [] → IsReadFault call → RefusalCause call text [] ReportPart.Nothing Status.ReadFault
  by_length : text ≡ [] → IsTooLong call → RefusalCause call text [] ReportPart.Nothing Status.TooLong
  by_input : (told : Status) → text ≡ [] → IsDeclined call told → RefusalCause call text [] ReportPart.Nothing told
  by_text : (fault : TextFault) → IsUnreadable call text fault → RefusalCause call text [] ReportPart.Nothing (Status.Text fault)
  by_types : (fault : TypeFault) → IsRefusedByTypes call text fault → RefusalCause call text [] ReportPart.Nothing (Status.Types fault)
  by_program : (ahead : List ℕ) (own : ReportPart) (told : Status) → IsSettled call text ahead own told → RefusalCause call text ahead own told
  by_memory : IsAskedOrNone call text → IsWithoutMemory call → RefusalCause call text [] ReportPart.Nothing Status.NoMemory

-- the report has the command that the words spell; if it has none, they spell none, or memory ran out
abbrev pub IsNamed : Call → Option Command → Status → Type 0
IsNamed call (Some command) told = SpellsCommand call.words command
IsNamed call None told = SpellsNothing call.words ⊎ (told ≡ Status.NoMemory)

-- A call is refused before a run, with this text, if one was taken, this command and this status, which has its cause.
pub record IsRefusedWith (call : Call) (text : Text) (command : Option Command) (told : Status) : Type 0 where
  pub cause : RefusalCause call text [] ReportPart.Nothing told
  pub named : IsNamed call command told
  pub most : length text ≤ whole_limit

-- Calls with a run

-- the status of a stop, given the certificates of members that are blocked
abbrev pub status_at : Option Stop → List Certificate → Status
status_at (Some Stop.Finished) certificates = Status.Finished
status_at (Some Stop.Blocked) certificates = Status.Blocked (length certificates)
status_at (Some Stop.Spent) certificates = Status.Spent
status_at (Some (Stop.Tall number)) certificates = Status.Tall number
status_at (Some Stop.NoMemory) certificates = Status.NoMemory
status_at (Some Stop.WriteFault) certificates = Status.WriteFault
status_at (Some (Stop.DeviceFault device)) certificates = Status.DeviceFault device
status_at None certificates = Status.NoMemory

-- the status of a run that ended so
abbrev pub status_of : End Val → Status
status_of end = status_at end.stop end.certificates

-- this is the number of members that are left, and each has a certificate that its condition is false
pub record IsBlocked (s : State) (certificates : List Certificate) (number : ℕ) : Type 0 where
  pub certified : CertifyAll s certificates
  pub number_is : number ≡ length s.members

-- the turns are used up, and members are left
pub record IsSpent (limit turns : ℕ) (s : State) : Type 0 where
  pub turns_are : turns ≡ limit
  pub left : s.members ≢ []

-- a device failed in this call, or its count stands at its last value; a member comes to a call of that device by local steps
pub record IsDeviceFault (device : ℕ) (r : Replayed) (before after : Ends) : Type 0 where
  pub comes : ComesToCall r device
  pub faults : HasRisen (told_at before.told device).faults (told_at after.told device).faults

-- Each status of a run that was begun has its cause in the engine's end, in the state to which its journal leads, or in source, sink and
-- devices before and after.
abbrev pub RunCause : Status → Options → End Val → Replayed → Ends → Ends → Type 0
RunCause Status.Finished options end r before after = r.state.members ≡ []
RunCause (Status.Blocked number) options end r before after = IsBlocked r.state end.certificates number
RunCause Status.Spent options end r before after = IsSpent options.turns end.turns r.state
RunCause (Status.Tall number) options end r before after = IsTall number end.entries
RunCause (Status.DeviceFault device) options end r before after = IsDeviceFault device r before after
RunCause Status.NoMemory options end r before after = ⊤
RunCause Status.WriteFault options end r before after = HasRisen before.write_faults after.write_faults
RunCause _ options end r before after = ⊥

-- each status of a command's run has its cause; in a weak run, the caller of a device that failed may be in unprotected code without an entry
abbrev pub CommandCause : Command → Status → Options → End Val → Replayed → Ends → Ends → Type 0
CommandCause (Command.Weak seed turns) (Status.DeviceFault device) options end r before after = IsWeakFault device r.state before after
CommandCause command status options end r before after = RunCause status options end r before after
