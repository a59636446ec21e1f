use Rattle.ame_repeats.proofs.PlayLemmas.{pick-again}
use Rattle.ame_repeats.proofs.repeats.turns_repeat.Goals as goal

pub returns : goal.returns
returns g c = λ made again old new other next x y seat same alike.
    let one = pick-again g.M.Runner.meaning made again old new other next same x.going x.played y.played seat x.fine y.fine alike in
    (one.same, one.leads)
