use Rattle.ame_laws.proofs.Typed.LocalLemmas.{local_reduces}
use Rattle.ame_laws.proofs.theorems.local_steps_reduce.Goals as goal

pub returns : goal.returns
returns c = local_reduces
