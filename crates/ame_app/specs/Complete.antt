-- The status that a call must have.
use Rattle.std.specs.Prelude.{◌≡◌, ◌⊎◌, ℕ, ◌<◌, ◌≤◌, Bool, true, false, List, [], Option, Some, None, Ok, Err, length, ⊤}
use Rattle.ame_io.specs.Counts.{HasNotRisen}
use Rattle.ame_io.specs.Reads.{whole_limit}
use Rattle.ame_lex.specs.Bytes.{Text}
use Rattle.ame_parse.specs.Text.{Source, ReadingFault, reading}
use Rattle.ame_term.specs.Tree.{Tree}
use Rattle.ame_term.specs.Shown.{TypeFault}
use Rattle.ame_term.specs.Typing.{typing}
use Rattle.ame_cli.specs.declared.command.Options.{Options}
use Rattle.ame_cli.specs.declared.command.Command.{Command}
use Rattle.ame_cli.specs.Grammar.{SpellsCommand, SpellsNothing}
use Rattle.ame_shell.specs.Ends.{Ends, told_at}
use Rattle.ame_app.specs.declared.parts.Front.{Front}
use Rattle.ame_app.specs.declared.parts.ReportPart.{ReportPart}
use Rattle.ame_app.specs.declared.status.Status.{Status}
use Rattle.ame_app.specs.Verbs.{reads_source, TakesInput, Declines, Settles, options_of}
use Rattle.ame_app.specs.Calls.{Given, Call}
use Rattle.ame_app.specs.Texts.{IsNoProgram, IsIllTyped, IsAcceptedText}

-- Input

-- the bytes that a command is given: those that the source has left, if it shows them; none, if the command reads no source
abbrev pub AreBytesOf : Bool → Given → List ℕ → Type 0
AreBytesOf true source bytes = source.left ≡ Some bytes
AreBytesOf false source bytes = bytes ≡ []

-- the words spell a command, which is given these bytes
pub record IsGivenBytes (call : Call) (bytes : List ℕ) : Type 0 where
  pub command : Command
  pub spelled : SpellsCommand call.words command
  pub given : AreBytesOf (reads_source command) call.source bytes

-- the words spell a command, and this is the text that it takes of the bytes that it is given, which aren't too many
pub record IsGivenText (call : Call) (text : Text) : Type 0 where
  pub bytes : List ℕ
  pub given : IsGivenBytes call bytes
  pub most : length bytes ≤ whole_limit
  pub front : Front
  pub takes : TakesInput given.command bytes front text

-- the words spell a command, which doesn't take the bytes that it is given, though they aren't too many, and has this status for that
pub record IsGivenInVain (call : Call) (told : Status) : Type 0 where
  pub bytes : List ℕ
  pub given : IsGivenBytes call bytes
  pub most : length bytes ≤ whole_limit
  pub declines : Declines given.command bytes told

-- the text is no program
pub record IsUnread (text : Text) : Type 0 where
  pub why : ReadingFault
  pub reads : reading text ≡ Err why

-- the text is a program that breaks a rule of the types with this number of devices
pub record IsRefused (text : Text) (devices : ℕ) : Type 0 where
  pub source : Source
  pub fault : TypeFault
  pub reads : reading text ≡ Ok source
  pub breaks : typing devices source.places source.tree ≡ Err fault

-- no count of faults of source, sink or a device rose, nor stands at its last value
pub record NothingFailed (call : Call) (before after : Ends) : Type 0 where
  pub source : HasNotRisen call.source.faults call.source_after.faults
  pub sink : HasNotRisen before.write_faults after.write_faults
  pub devices : (k : ℕ) → HasNotRisen (told_at before.told k).faults (told_at after.told k).faults

-- Status

-- the status is this one, or memory ran out
abbrev pub IsUnlessMemory : Status → Status → Type 0
IsUnlessMemory told status = (status ≡ told) ⊎ (status ≡ Status.NoMemory)

-- the status has the first error of the text, or memory ran out
abbrev pub TellsFault : Text → Status → Type 0
TellsFault text (Status.Text fault) = IsNoProgram text fault
TellsFault text Status.NoMemory = ⊤
TellsFault text _ = ⊥

-- the status has the first rule that the text breaks, or memory ran out
abbrev pub TellsRule : Text → ℕ → Status → Type 0
TellsRule text devices (Status.Types fault) = IsIllTyped text devices fault
TellsRule text devices Status.NoMemory = ⊤
TellsRule text devices _ = ⊥

-- the status says how a run ended, or memory ran out
abbrev pub TellsEnd : Status → Type 0
TellsEnd Status.Finished = ⊤
TellsEnd (Status.Blocked number) = ⊤
TellsEnd Status.Spent = ⊤
TellsEnd (Status.Tall number) = ⊤
TellsEnd Status.NoMemory = ⊤
TellsEnd _ = ⊥

-- if a run is to be made with some options, the status says how it ended; if none is, memory ran out
abbrev pub TellsEndWith : Option Options → Status → Type 0
TellsEndWith (Some options) status = TellsEnd status
TellsEndWith None status = status ≡ Status.NoMemory

-- the command settles the program with this status, without a run; or a run is made, and the status says how it ended
abbrev pub TellsOutcome : Command → Front → Tree → Status → Type 0
TellsOutcome command front program status =
    ((ahead : List ℕ) × (own : ReportPart) × Settles command front program ahead own status) ⊎ TellsEndWith (options_of command) status

-- the status says that the text is too long, or what is wrong with it, or memory ran out
abbrev pub TellsText : Status → Type 0
TellsText Status.TooLong = ⊤
TellsText (Status.Text fault) = ⊤
TellsText (Status.Types fault) = ⊤
TellsText Status.NoMemory = ⊤
TellsText _ = ⊥

-- the status is one of a text, of bytes that the command doesn't take, or of a program, for some bytes and some program
abbrev pub TellsInput : Command → Status → Type 0
TellsInput command status =
    TellsText status ⊎ (((bytes : List ℕ) × Declines command bytes status) ⊎ ((front : Front) × (program : Tree) × TellsOutcome command front program status))

-- the status names the device that failed, unless memory ran out in a weak run after that
abbrev pub TellsDevice : Call → ℕ → Status → Type 0
TellsDevice call k status =
    (status ≡ Status.DeviceFault k) ⊎ ((status ≡ Status.NoMemory) × (seed : ℕ) × (turns : ℕ) × SpellsCommand call.words (Command.Weak seed turns))

-- If nothing failed, the words, what they are given and its text decide the status, except for how a run ends and for out of memory.
-- If something failed, the status says so: the sink first, then a device, then the source.
pub record IsComplete (call : Call) (status : Status) (before after : Ends) : Type 0 where
  pub usage : NothingFailed call before after → SpellsNothing call.words → IsUnlessMemory Status.Usage status
  pub spelled : NothingFailed call before after → (command : Command) → SpellsCommand call.words command → TellsInput command status
  pub long : NothingFailed call before after → (bytes : List ℕ) → IsGivenBytes call bytes → whole_limit < length bytes
      → IsUnlessMemory Status.TooLong status
  pub declined : NothingFailed call before after → (told : Status) → IsGivenInVain call told → IsUnlessMemory told status
  pub unread : NothingFailed call before after → (text : Text) → IsGivenText call text → IsUnread text → TellsFault text status
  pub refused : NothingFailed call before after → (text : Text) → IsGivenText call text → IsRefused text call.devices
      → TellsRule text call.devices status
  pub accepted : NothingFailed call before after → (text : Text) (given : IsGivenText call text) (good : IsAcceptedText text call.devices)
      → TellsOutcome given.given.command given.front good.source.tree status
  pub settled : NothingFailed call before after → (text : Text) (given : IsGivenText call text) (good : IsAcceptedText text call.devices)
      → (ahead : List ℕ) (own : ReportPart) (told : Status) → Settles given.given.command given.front good.source.tree ahead own told → IsUnlessMemory told status
  pub sink_failed : before.write_faults < after.write_faults → status ≡ Status.WriteFault
  pub device_failed : HasNotRisen before.write_faults after.write_faults → (k : ℕ) → (told_at before.told k).faults < (told_at after.told k).faults
      → TellsDevice call k status
  pub source_failed : HasNotRisen before.write_faults after.write_faults → call.source.faults < call.source_after.faults
      → status ≡ Status.ReadFault
