use Rattle.ame_gen.proofs.LengthLemmas.{length-text}
use Rattle.ame_gen.proofs.laws.length_is_linear.Goals as goal

pub returns : goal.returns
returns c = length-text
