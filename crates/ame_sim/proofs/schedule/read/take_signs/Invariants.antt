use Rattle.std.proofs.Common.{◌≡◌, take}
use Rattle.ame_sim.specs.Schedule.{AreSeats, signs}
use Rattle.ame_sim.proofs.schedule.read.take_signs.Given as goal

abbrev pub invariant-loop-place : goal.invariant-loop-place
invariant-loop-place l = AreSeats l.picks.items × (take l.place l.text ≡ signs l.picks.items)
