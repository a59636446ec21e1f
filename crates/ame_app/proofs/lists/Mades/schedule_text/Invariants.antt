-- The seats of the picks so far.
use Rattle.std.proofs.Common.{◌≡◌, take}
use Rattle.ame_sim.specs.Questions.{seats_of}
use Rattle.ame_app.proofs.lists.Mades.schedule_text.Given as goal

abbrev pub invariant-loop-pick : goal.invariant-loop-pick
invariant-loop-pick l = l.seats.items ≡ seats_of (take l.pick-index l.pick-items)
