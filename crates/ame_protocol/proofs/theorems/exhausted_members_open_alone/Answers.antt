use Rattle.ame_protocol.proofs.Visits.OpenLemmas.{opened-alone}
use Rattle.ame_protocol.proofs.theorems.exhausted_members_open_alone.Goals as goal

pub returns : goal.returns
returns c = opened-alone
