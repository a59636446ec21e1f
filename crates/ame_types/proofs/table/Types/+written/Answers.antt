use Rattle.ame_types.proofs.SharedLemmas.{listed}
use Rattle.ame_types.proofs.table.Types.+written.Goals as goal

pub function-requires-clause-param : goal.function-requires-clause-param
function-requires-clause-param t c = listed c.in_ok-answer-in-Fun.ensures.stays _ c.in_ok-param-in-Fun.ensures.listed

pub pair-requires-clause-first : goal.pair-requires-clause-first
pair-requires-clause-first t c = listed c.in_ok-second-in-Pair.ensures.stays _ c.in_ok-first-in-Pair.ensures.listed
