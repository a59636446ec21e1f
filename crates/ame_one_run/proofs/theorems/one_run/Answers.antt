use Rattle.ame_one_run.proofs.OneRunLemmas.{run-promised}
use Rattle.ame_one_run.proofs.theorems.one_run.Goals as goal

pub returns : goal.returns
returns c = λ call report before after promised words. run-promised c.spelled_is_read.ensures call report before after promised words
