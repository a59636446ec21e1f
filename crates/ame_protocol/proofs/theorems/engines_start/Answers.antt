use Rattle.ame_protocol.proofs.Engine.StartLemmas.{started_stands}
use Rattle.ame_protocol.proofs.theorems.engines_start.Goals as goal

pub returns : goal.returns
returns c = started_stands
