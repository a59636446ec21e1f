use Rattle.ame_laws.proofs.Typed.GivenTypes.{step_kept}
use Rattle.ame_laws.proofs.theorems.steps_keep_given_types.Goals as goal

pub returns : goal.returns
returns c = λ signature cells s side kind i t typed made has. step_kept signature cells s typed side kind i t made has
