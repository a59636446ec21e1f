use Rattle.ame_runner.proofs.ApartLemmas.{notes-apart}
use Rattle.ame_runner.proofs.theorems.notes_stand_apart.Goals as goal

pub returns : goal.returns
returns c = λ program labels tries w leads order tried spaced. notes-apart program labels w leads tries order tried spaced
