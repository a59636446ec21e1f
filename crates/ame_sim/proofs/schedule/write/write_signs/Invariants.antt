use Rattle.std.proofs.Common.{◌≡◌, ◌++◌, take}
use Rattle.ame_sim.specs.Schedule.{signs}
use Rattle.ame_sim.proofs.schedule.write.write_signs.Given as goal

abbrev pub invariant-loop-pick : goal.invariant-loop-pick
invariant-loop-pick l = l.text.items ≡ l.initial.text.items ++ signs (take l.pick-index l.picks)
