use Rattle.ame_laws.proofs.Typed.Preserved.{kept}
use Rattle.ame_laws.proofs.theorems.labels_keep_types.Goals as goal

pub returns : goal.returns
returns c = kept
