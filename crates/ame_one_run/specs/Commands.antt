-- The commands by how their runs are made, and the promise of each whose run begins with the program.
use Rattle.std.specs.Prelude.{⊤}
use Rattle.ame_cli.specs.declared.command.Command.{Command}
use Rattle.ame_shell.specs.Ends.{Ends}
use Rattle.ame_app.specs.declared.parts.Front.{Front}
use Rattle.ame_app.specs.Verbs.{written_behind}
use Rattle.ame_app.specs.Calls.{Call, Asks}
use Rattle.ame_app.specs.Causes.{status_of}
use Rattle.ame_app.specs.RunResult.{end_in}
use Rattle.ame_app.specs.Reported.{RunView, Reported}
use Rattle.ame_one_run.specs.OneRun.{IsOneRun}

-- the run of the command begins with the program: that of `resume` goes on from a journal, and `weak` runs by other rules
abbrev pub BeginsAnew : Command → Type 0
BeginsAnew (Command.Run options) = ⊤
BeginsAnew (Command.Bench seed size options) = ⊤
BeginsAnew (Command.Sim seed options) = ⊤
BeginsAnew (Command.Replay options) = ⊤
BeginsAnew _ = ⊥

-- The text that was run is the one that the command takes. After the last line stands what the command writes there, which is the
-- line of a schedule for `sim` and `replay`.
pub record IsRunOf (command : Command) (call : Call) (report : Reported) (run : RunView) (before after : Ends) : Type 0 where
  pub front : Front
  pub asked : Asks call command front report.text
  pub makes : IsOneRun report.text call.devices (written_behind command run.left (status_of (end_in run.left))) before after
