use Rattle.ame_protocol.proofs.Visits.OpenLemmas.{opened-stands}
use Rattle.ame_protocol.proofs.theorems.engines_open.Goals as goal

pub returns : goal.returns
returns c = λ program signature limits base cells pool r types replayed typed o m.
    opened-stands program signature limits base cells pool r types replayed typed o m
