use Rattle.ame_protocol.proofs.Event.RunLemmas.{run-tells}
use Rattle.ame_protocol.proofs.theorems.events.runs_tell_their_entries.Goals as goal

pub returns : goal.returns
returns c = run-tells
