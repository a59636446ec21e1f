use Rattle.std.proofs.Common.{◌≡◌, ◌≤◌, length, take}
use Rattle.ame_sim.specs.Waits.{may_be_picked}
use Rattle.ame_sim.proofs.waits.free_among.Given as goal

abbrev pub invariant-loop-place : goal.invariant-loop-place
invariant-loop-place l = (l.free ≡ length (may_be_picked (take l.place l.waits))) × (l.free ≤ l.place)
