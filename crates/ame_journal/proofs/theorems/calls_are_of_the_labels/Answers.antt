use Rattle.ame_journal.specs.Replayed.{begun_at}
use Rattle.ame_journal.proofs.CallLemmas.{calls-unfolded}
use Rattle.ame_journal.proofs.theorems.calls_are_of_the_labels.Goals as goal

pub returns : goal.returns
returns c = λ device program entries labels r unfolds. calls-unfolded device (begun_at program) entries labels r unfolds
