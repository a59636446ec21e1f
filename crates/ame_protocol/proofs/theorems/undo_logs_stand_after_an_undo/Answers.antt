use Rattle.ame_protocol.proofs.Row.OwnLemmas.{undo-less}
use Rattle.ame_protocol.proofs.theorems.undo_logs_stand_after_an_undo.Goals as goal

pub returns : goal.returns
returns c = λ old new seat undos undo cell log b apart k. undo-less old new seat undo cell b k apart undos log
