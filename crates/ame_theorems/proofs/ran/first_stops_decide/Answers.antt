use Rattle.ame_theorems.proofs.RanLemmas.{ran-stopped}
use Rattle.ame_theorems.proofs.ran.first_stops_decide.Goals as goal

pub returns : goal.returns
returns g c = λ since program signature limits value before after end over. ran-stopped program signature limits since value end over.ran
