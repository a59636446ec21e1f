use Rattle.ame_laws.proofs.Typed.GivenTypes.{label_kept}
use Rattle.ame_laws.proofs.theorems.labels_keep_given_types.Goals as goal

pub returns : goal.returns
returns c = λ signature cells s label t typed legal has. label_kept signature cells s typed label t legal has
