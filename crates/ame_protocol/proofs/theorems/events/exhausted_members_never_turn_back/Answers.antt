use Rattle.ame_protocol.proofs.Event.RowLemmas.{may-turn}
use Rattle.ame_protocol.proofs.theorems.events.exhausted_members_never_turn_back.Goals as goal

pub returns : goal.returns
returns c = λ s h seat attempt why may. may-turn s h may.0 seat attempt may.1 why may.2
