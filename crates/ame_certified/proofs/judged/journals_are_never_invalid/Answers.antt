use Rattle.ame_certified.proofs.JudgedLemmas.{never-invalid}
use Rattle.ame_certified.proofs.judged.journals_are_never_invalid.Goals as goal

pub returns : goal.returns
returns c = never-invalid
