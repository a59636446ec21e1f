-- The events of a run.
use Rattle.std.specs.Prelude.{◌≡◌, ℕ, List, All}
use Rattle.ame_journal.specs.declared.entry.Entry.{Entry}
use Rattle.ame_drawing.specs.declared.pick.DrawnPick.{DrawnPick}
use Rattle.ame_drawing.specs.declared.timeline.Timeline.{Timeline}
use Rattle.ame_drawing.specs.Claims.{TellEntries}
use Rattle.ame_drawing.specs.Lanes.{lanes_below, FitsFate}

-- A timeline holds the attempts that a drawing of these picks on these seats shows. They show these entries one for one, each that looks committed
-- or visited one of them.
pub record IsTimelineOf (seats : ℕ) (picks : List DrawnPick) (entries : List Entry) (timeline : Timeline) : Type 0 where
  pub on : timeline.seats ≡ seats
  pub boxes : timeline.attempts.items ≡ lanes_below seats picks
  pub told : TellEntries seats entries timeline.attempts.items
  pub fates : All FitsFate timeline.attempts.items
