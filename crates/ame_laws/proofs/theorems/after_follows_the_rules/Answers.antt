use Rattle.ame_laws.proofs.Followed.{rule_of, after_of}
use Rattle.ame_laws.proofs.theorems.after_follows_the_rules.Goals as goal

pub returns : goal.returns
returns c = λ s label t. (rule_of s label t, after_of s label t)
