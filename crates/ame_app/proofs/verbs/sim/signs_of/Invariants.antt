-- The signs of the picks so far.
use Rattle.std.proofs.Common.{◌≡◌, take}
use Rattle.ame_app.proofs.PickLemmas.{signs_picked}
use Rattle.ame_app.proofs.verbs.sim.signs_of.Given as goal

abbrev pub invariant-loop-pick : goal.invariant-loop-pick
invariant-loop-pick l = l.signs.items ≡ signs_picked (take l.pick-index l.picks)
