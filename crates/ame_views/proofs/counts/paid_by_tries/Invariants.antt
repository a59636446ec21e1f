use Rattle.std.proofs.Common.{◌≡◌, take}
use Rattle.ame_protocol.specs.Bounds.Spent.{paid_by_tries}
use Rattle.ame_views.proofs.counts.paid_by_tries.Given as goal

abbrev pub invariant-loop-one : goal.invariant-loop-one
invariant-loop-one l = l.paid ≡ paid_by_tries l.slice (take l.one-index l.tried)
