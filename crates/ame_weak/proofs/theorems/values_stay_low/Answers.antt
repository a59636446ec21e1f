use Rattle.ame_term.specs.View.{tree_of}
use Rattle.ame_weak.proofs.LowValues.{labels_low, start_low, active_tall, resting_tall}
use Rattle.ame_weak.specs.Weak.{weak_start}
use Rattle.ame_weak.proofs.theorems.values_stay_low.Goals as goal

pub returns-clause-stay : goal.returns-clause-stay
returns-clause-stay c = λ labels w leads within.
    let a = c.args.accepted.now in
    let p = tree_of a.program.term in
    labels_low (weak_start p) w labels leads within (start_low p a.program.source)

pub returns-clause-active : goal.returns-clause-active
returns-clause-active c = active_tall

pub returns-clause-resting : goal.returns-clause-resting
returns-clause-resting c = resting_tall
