use Rattle.ame_repeats.proofs.PlayLemmas.{run-again}
use Rattle.ame_repeats.proofs.repeats.replays_repeat.Goals as goal

pub returns : goal.returns
returns g c = λ opening other mades others end last x y one seats alike.
    run-again g.M.Runner.meaning opening other mades others end last x y one seats alike
