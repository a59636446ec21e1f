use Rattle.ame_repeats.proofs.PlayLemmas.{plays-again}
use Rattle.ame_repeats.proofs.repeats.picks_repeat.Goals as goal

pub returns : goal.returns
returns g c = λ mades others first last other end x y seats same alike.
    let all = plays-again g.M.Runner.meaning mades others first last other end x.plays y.plays same seats x.fine y.fine alike in
    (all.same, all.leads)
