use Rattle.ame_protocol.proofs.Row.WaitingLemmas.{not-written, not-born}
use Rattle.ame_protocol.proofs.theorems.unprotected_code_wakes_nobody.Goals as goal

pub returns-clause-writes : goal.returns-clause-writes
returns-clause-writes c = not-written

pub returns-clause-births : goal.returns-clause-births
returns-clause-births c = not-born
