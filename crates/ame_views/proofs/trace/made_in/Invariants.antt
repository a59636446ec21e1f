use Rattle.std.proofs.Common.{◌≡◌, ◌++◌, drop}
use Rattle.ame_views.specs.Trace.{made_from}
use Rattle.ame_views.proofs.trace.made_in.Given as goal

abbrev pub invariant-loop-number : goal.invariant-loop-number
invariant-loop-number l = l.made.items ++ made_from l.number (drop l.number l.store) ≡ made_from 0 l.store
