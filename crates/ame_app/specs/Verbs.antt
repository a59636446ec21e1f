-- Tables of the commands, a row each.
pub mod Run
pub mod Bench
pub mod Sim
pub mod Replay
pub mod Check
pub mod Resume
pub mod Weak
use Rattle.std.specs.Prelude.{ℕ, Bool, true, false, List, [], Option, Some, None}
use Rattle.ame_lex.specs.Bytes.{Text}
use Rattle.ame_term.specs.Tree.{Tree}
use Rattle.ame_journal.specs.declared.entry.Entry.{Entry}
use Rattle.ame_code.specs.FlatCode.{FlatCode}
use Rattle.ame_code.specs.Code.{program_of}
use Rattle.ame_protocol.specs.declared.types.Limits.{Limits}
use Rattle.ame_shell.specs.Ends.{Ends}
use Rattle.ame_cli.specs.declared.command.Options.{Options}
use Rattle.ame_cli.specs.declared.command.Command.{Command}
use Rattle.ame_app.specs.declared.run_result.RunResult.{RunResult}
use Rattle.ame_app.specs.declared.parts.Front.{Front}
use Rattle.ame_app.specs.declared.parts.ReportPart.{ReportPart}
use Rattle.ame_app.specs.declared.status.Status.{Status}
use Rattle.ame_app.specs.Verbs.Run.{TakesAll, BeginsWithNothing, HasNothing}
use Rattle.ame_app.specs.Verbs.Bench.{TakesGenerated}
use Rattle.ame_app.specs.Verbs.Sim.{IsPicked, schedule_behind}
use Rattle.ame_app.specs.Verbs.Replay.{TakesScheduled, HasNoSchedule, IsPickedAsListed}
use Rattle.ame_app.specs.Verbs.Check.{TakesCertificate, HasNoCertificate, entries_before, TellsOfJournal}
use Rattle.ame_app.specs.Verbs.Resume.{TellsOfBase, BeginsFromActs, TellsResumed}
use Rattle.ame_app.specs.Verbs.Weak.{alone_with, IsWeakened}
use Rattle.ame_sim.specs.Drawn.{drawn}

-- Input

-- says if a command reads the source
abbrev pub reads_source : Command → Bool
reads_source (Command.Run options) = true
reads_source (Command.Bench seed size options) = false
reads_source (Command.Sim seed options) = true
reads_source (Command.Replay options) = true
reads_source Command.Check = true
reads_source (Command.Resume options) = true
reads_source (Command.Weak seed turns) = true

-- the bytes that were read are this front and this text of a program
abbrev pub TakesInput : Command → List ℕ → Front → Text → Type 0
TakesInput (Command.Run options) bytes front text = TakesAll bytes front text
TakesInput (Command.Bench seed size options) bytes front text = TakesGenerated seed size front text
TakesInput (Command.Sim seed options) bytes front text = TakesAll bytes front text
TakesInput (Command.Replay options) bytes front text = TakesScheduled bytes front text
TakesInput Command.Check bytes front text = TakesCertificate bytes front text
TakesInput (Command.Resume options) bytes front text = TakesCertificate bytes front text
TakesInput (Command.Weak seed turns) bytes front text = TakesAll bytes front text

-- the bytes are no front and text, and the command has this status for that
abbrev pub Declines : Command → List ℕ → Status → Type 0
Declines (Command.Run options) bytes told = ⊥
Declines (Command.Bench seed size options) bytes told = ⊥
Declines (Command.Sim seed options) bytes told = ⊥
Declines (Command.Replay options) bytes told = HasNoSchedule bytes told
Declines Command.Check bytes told = HasNoCertificate bytes told
Declines (Command.Resume options) bytes told = HasNoCertificate bytes told
Declines (Command.Weak seed turns) bytes told = ⊥

-- Statuses without a run

-- the status of a program, with the bytes before the verdict line and what the report has of the command's own
abbrev pub Settles : Command → Front → Tree → List ℕ → ReportPart → Status → Type 0
Settles (Command.Run options) front program ahead own told = ⊥
Settles (Command.Bench seed size options) front program ahead own told = ⊥
Settles (Command.Sim seed options) front program ahead own told = ⊥
Settles (Command.Replay options) front program ahead own told = ⊥
Settles Command.Check front program ahead own told = TellsOfJournal program (entries_before front) ahead own told
Settles (Command.Resume options) front program ahead own told = TellsOfBase program (entries_before front) ahead own told
Settles (Command.Weak seed turns) front program ahead own told = ⊥

-- Runs

-- the options of the run, if one is to be made
abbrev pub options_of : Command → Option Options
options_of (Command.Run options) = Some options
options_of (Command.Bench seed size options) = Some options
options_of (Command.Sim seed options) = Some options
options_of (Command.Replay options) = Some options
options_of Command.Check = None
options_of (Command.Resume options) = Some options
options_of (Command.Weak seed turns) = Some (alone_with turns)

-- the entries with which the run of a program begins
abbrev pub BeginsFrom : Command → Front → Tree → List Entry → Type 0
BeginsFrom (Command.Run options) front program base = BeginsWithNothing base
BeginsFrom (Command.Bench seed size options) front program base = BeginsWithNothing base
BeginsFrom (Command.Sim seed options) front program base = BeginsWithNothing base
BeginsFrom (Command.Replay options) front program base = BeginsWithNothing base
BeginsFrom Command.Check front program base = ⊥
BeginsFrom (Command.Resume options) front program base = BeginsFromActs program (entries_before front) base
BeginsFrom (Command.Weak seed turns) front program base = BeginsWithNothing base

-- Results

-- the run that a command made of code, with these limits and from these ends, left what the command promises
abbrev pub Promises : Command → Front → FlatCode → Limits → Ends → RunResult → Type 0
Promises (Command.Run options) front code limits before left = HasNothing left
Promises (Command.Bench seed size options) front code limits before left = HasNothing left
Promises (Command.Sim seed options) front code limits before left = IsPicked (drawn seed) code limits before left
Promises (Command.Replay options) front code limits before left = IsPickedAsListed front code limits before left
Promises Command.Check front code limits before left = ⊥
Promises (Command.Resume options) front code limits before left = TellsResumed left
Promises (Command.Weak seed turns) front code limits before left = IsWeakened (program_of code) seed turns left

-- what is written after the verdict line of a run
abbrev pub written_behind : Command → RunResult → Status → List ℕ
written_behind (Command.Run options) left told = []
written_behind (Command.Bench seed size options) left told = []
written_behind (Command.Sim seed options) left told = schedule_behind left told
written_behind (Command.Replay options) left told = schedule_behind left told
written_behind Command.Check left told = []
written_behind (Command.Resume options) left told = []
written_behind (Command.Weak seed turns) left told = []
