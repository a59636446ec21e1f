use Rattle.ame_protocol.proofs.Event.SoundLemmas.{sound-after}
use Rattle.ame_protocol.proofs.theorems.events.events_keep_states_sound.Goals as goal

pub returns : goal.returns
returns c = sound-after
