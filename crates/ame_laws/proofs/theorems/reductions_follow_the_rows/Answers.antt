use Rattle.ame_laws.proofs.RuleEffects.{becomes_as_told, reduces_as_told}
use Rattle.ame_laws.proofs.theorems.reductions_follow_the_rows.Goals as goal

pub returns-clause-becomes : goal.returns-clause-becomes
returns-clause-becomes c = becomes_as_told

pub returns-clause-reduces : goal.returns-clause-reduces
returns-clause-reduces c = reduces_as_told
