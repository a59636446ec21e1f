use Rattle.ame_sim.specs.Drawn.{drawn}
use Rattle.ame_sim.specs.Listed.{picked_as_listed}
use Rattle.ame_repeats.proofs.ChosenLemmas.{asks-drawn, asks-listed, chosen-again}
use Rattle.ame_repeats.proofs.repeats.chosen_runs_repeat.Goals as goal

pub returns-clause-seed : goal.returns-clause-seed
returns-clause-seed g c = λ seed opening other mades others end last x y one h i alike.
    chosen-again drawn asks-drawn g.M.Runner.meaning opening other mades others end last x y one alike seed h i

pub returns-clause-list : goal.returns-clause-list
returns-clause-list g c = λ seats opening other mades others end last x y one h i alike.
    chosen-again picked_as_listed asks-listed g.M.Runner.meaning opening other mades others end last x y one alike seats h i
