use Rattle.ame_journal.specs.Replay.{replay_from}
use Rattle.ame_journal.proofs.OneLemmas.{all-one, one}
use Rattle.ame_journal.proofs.UnfoldLemmas.{all-back}
use Rattle.ame_journal.proofs.theorems.labels_are_one.Goals as goal

pub returns : goal.returns
returns c =
    λ r entries labels more t u first other.
    (all-one r entries labels more t u first other, one t u (replay_from r entries) (all-back r entries labels t first) (all-back r entries more u other))
