use Rattle.std.proofs.Common.{◌≡◌, take}
use Rattle.std.specs.List.{fold}
use Rattle.ame_drawing.specs.Shown.{seats_with}
use Rattle.ame_drawing.proofs.shown.shown_seats.Given as goal

abbrev pub invariant-loop-pick : goal.invariant-loop-pick
invariant-loop-pick l = l.seats ≡ fold seats_with 1 (take l.pick-index l.picks)
