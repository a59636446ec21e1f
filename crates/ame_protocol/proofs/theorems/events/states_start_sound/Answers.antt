use Rattle.ame_protocol.proofs.Event.SoundLemmas.{sound-start}
use Rattle.ame_protocol.proofs.theorems.events.states_start_sound.Goals as goal

pub returns : goal.returns
returns c = sound-start
