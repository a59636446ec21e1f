use Rattle.ame_theorems.proofs.RanLemmas.{ran-counted}
use Rattle.ame_theorems.proofs.ran.counters_tell_entries.Goals as goal

pub returns : goal.returns
returns g c = λ since program signature limits value before after end over. ran-counted program signature limits since value end over.ran
