-- The promises of every call.
use Rattle.std.specs.Prelude.{◌≡◌, ◌≤◌, None, IfSome, length}
use Rattle.ame_io.specs.Reads.{whole_limit}
use Rattle.ame_shell.specs.Ends.{Ends}
use Rattle.ame_app.specs.Calls.{Call}
use Rattle.ame_app.specs.RunResult.{end_in}
use Rattle.ame_app.specs.Reported.{Reported}
use Rattle.ame_app.specs.Headline.{Headline, IsTurnedAway}
use Rattle.ame_app.specs.Complete.{IsComplete}

-- If a run was begun, the headline holds; if none was, the call was turned away. In both cases the status is the one that it must be.
pub record IsPromised (call : Call) (report : Reported) (before after : Ends) : Type 0 where
  pub ran : IfSome report.run (λ run. Headline call report run (end_in run.left) before after)
  pub turned_away : report.run ≡ None → IsTurnedAway call report before after
  pub complete : IsComplete call report.status before after
  pub short : length report.text ≤ whole_limit
