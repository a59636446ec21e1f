use Rattle.ame_protocol.proofs.Event.FreshLemmas.{told-afresh}
use Rattle.ame_protocol.proofs.theorems.events.entries_take_rollbacks_off.Goals as goal

pub returns : goal.returns
returns c = told-afresh
