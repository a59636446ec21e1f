use Rattle.ame_theorems.proofs.RanLemmas.{ran-back}
use Rattle.ame_theorems.proofs.ran.members_turn_back_seldom.Goals as goal

pub returns : goal.returns
returns g c = λ since program signature limits value before after end over accepted slice plain.
    ran-back program signature limits since value end over.ran accepted slice plain
