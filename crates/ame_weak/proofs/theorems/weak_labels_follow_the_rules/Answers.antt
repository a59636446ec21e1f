use Rattle.ame_weak.proofs.WeakFollowed.{weak_rule_of, weak_after_of}
use Rattle.ame_weak.proofs.theorems.weak_labels_follow_the_rules.Goals as goal

pub returns : goal.returns
returns c = λ w v label. (weak_rule_of w v label, weak_after_of w v label)
