use Rattle.ame_journal.specs.Replayed.{begun_at}
use Rattle.ame_journal.proofs.NoteLemmas.{note-same, notes-dropped}
use Rattle.ame_journal.proofs.theorems.notes_change_nothing.Goals as goal

pub returns : goal.returns
returns c = record {
  entry = note-same;
  left_out = λ program entries r e. notes-dropped (begun_at program) entries r e;
}
