use Rattle.ame_protocol.proofs.Event.RunLemmas.{sound-along}
use Rattle.ame_protocol.proofs.theorems.events.runs_keep_states_sound.Goals as goal

pub returns : goal.returns
returns c = sound-along
