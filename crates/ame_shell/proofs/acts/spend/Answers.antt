use Rattle.std.proofs.Common.{sym}
use Rattle.ame_shell.proofs.acts.spend.Goals as goal

pub returns-else-is_back-clause-fits : goal.returns-else-is_back-clause-fits
returns-else-is_back-clause-fits g c = c.spend_running-outcome.ensures.at (sym c.if-is_back.ensures)
