use Rattle.ame_labels.proofs.OrderLemmas.{IsToldTo}
use Rattle.ame_labels.proofs.weak_order.Order.tell_all.Given as goal

abbrev pub invariant-loop-index : goal.invariant-loop-index
invariant-loop-index l = IsToldTo l.labels l.tries l.index l.rest l.initial.self l.self
