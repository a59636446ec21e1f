use Rattle.ame_protocol.proofs.Event.RunLemmas.{follows-more}
use Rattle.ame_protocol.proofs.theorems.events.runs_go_on.Goals as goal

pub returns : goal.returns
returns c = follows-more
