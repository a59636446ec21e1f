use Rattle.ame_journal.specs.Replayed.{begun_at}
use Rattle.ame_journal.proofs.UnfoldLemmas.{all-back}
use Rattle.ame_journal.proofs.theorems.unfolded_is_replayed.Goals as goal

pub returns : goal.returns
returns c = λ program entries labels r unfolds. all-back (begun_at program) entries labels r unfolds
