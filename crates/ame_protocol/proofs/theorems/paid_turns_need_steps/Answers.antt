use Rattle.std.proofs.Common.{arith}
use Rattle.ame_protocol.proofs.Bounds.PaidEntries.{turns-bounded}
use Rattle.ame_protocol.proofs.theorems.paid_turns_need_steps.Goals as goal

pub returns-clause-turns : goal.returns-clause-turns
returns-clause-turns c = turns-bounded

pub returns-clause-spent : goal.returns-clause-spent
returns-clause-spent c = λ parts a idle used. let h = turns-bounded parts a idle in omega arith
