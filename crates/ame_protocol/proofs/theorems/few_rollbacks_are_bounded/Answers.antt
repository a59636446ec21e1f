use Rattle.ame_protocol.proofs.Bounds.FewBounds.{refusals-bounded, tries-bounded}
use Rattle.ame_protocol.proofs.theorems.few_rollbacks_are_bounded.Goals as goal

pub returns-clause-refused : goal.returns-clause-refused
returns-clause-refused c = refusals-bounded

pub returns-clause-tries : goal.returns-clause-tries
returns-clause-tries c = tries-bounded
