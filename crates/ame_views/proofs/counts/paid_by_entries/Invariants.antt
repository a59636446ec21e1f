use Rattle.std.proofs.Common.{◌≡◌, take}
use Rattle.ame_protocol.specs.Bounds.Spent.{paid_by_entries}
use Rattle.ame_views.proofs.counts.paid_by_entries.Given as goal

abbrev pub invariant-loop-entry : goal.invariant-loop-entry
invariant-loop-entry l = l.paid ≡ paid_by_entries (take l.entry-index l.entries)
