use Rattle.ame_laws.proofs.NamesLemmas.{is_free-entered}
use Rattle.ame_laws.proofs.theorems.entered_names.Goals as goal

pub returns : goal.returns
returns c = is_free-entered
