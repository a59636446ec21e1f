-- The report of a call, without its sink and its devices.
use Rattle.std.specs.Prelude.{Option, option_map}
use Rattle.std.specs.Arc.{arc_value}
use Rattle.ame_lex.specs.Bytes.{Text}
use Rattle.ame_code.specs.FlatCode.{FlatCode}
use Rattle.ame_cli.specs.declared.command.Command.{Command}
use Rattle.ame_app.specs.declared.parts.ReportPart.{ReportPart}
use Rattle.ame_app.specs.declared.run_result.RunResult.{RunResult}
use Rattle.ame_app.specs.declared.run_result.Ran.{Ran}
use Rattle.ame_app.specs.declared.report.Report.{Report}
use Rattle.ame_app.specs.declared.status.Status.{Status}

-- the code that was run, and what the run left
pub record RunView : Type 0 where
  pub code : FlatCode
  pub left : RunResult

abbrev pub run_view : Ran → RunView
run_view ran = record { code = arc_value ran.code; left = ran.left }

-- The status of a call; the text of the program, which is empty if none was taken; the command that the words spell; the run, if one was
-- begun; and what the command adds if no run was begun.
pub record Reported : Type 0 where
  pub status : Status
  pub text : Text
  pub command : Option Command
  pub run : Option RunView
  pub own : ReportPart

abbrev pub reported : {K D : Type 0} → Report K D → Reported
reported report = record {
  status = report.status;
  text = report.text.items;
  command = report.command;
  run = option_map run_view report.run;
  own = report.own;
}
