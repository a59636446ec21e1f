use Rattle.ame_repeats.proofs.ListedLemmas.{listed-again}
use Rattle.ame_repeats.proofs.repeats.schedules_repeat.Goals as goal

pub returns : goal.returns
returns g c = λ opening other mades others end last x y one i alike.
    listed-again g.M.Runner.meaning opening other mades others end last x y one alike i
