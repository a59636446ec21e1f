use Rattle.ame_journal.specs.Replayed.{begun_at}
use Rattle.ame_journal.proofs.LabelLemmas.{unfold-all, unfolds_all-run}
use Rattle.ame_journal.proofs.theorems.journal_is_one_run.Goals as goal

pub returns : goal.returns
returns c =
    λ program entries r e.
    let all = unfold-all (begun_at program) entries r e in
    (all.0, all.1, unfolds_all-run (begun_at program) entries all.0 r all.1)
