use Rattle.ame_one_run.proofs.OneRunLemmas.{each-promised}
use Rattle.ame_one_run.proofs.theorems.each_run.Goals as goal

pub returns : goal.returns
returns c = λ call report before after command promised spells anew.
    each-promised c.spelled_is_read.ensures call report before after promised c.spells_one_command.ensures command spells anew
