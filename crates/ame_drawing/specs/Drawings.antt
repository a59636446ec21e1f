-- The parts of a picture of a run.
use Rattle.std.specs.Prelude.{◌≡◌, ℕ, min, List, map}
use Rattle.ame_journal.specs.declared.entry.Entry.{Entry}
use Rattle.ame_drawing.specs.declared.drawing.Drawing.{Drawing}
use Rattle.ame_drawing.specs.declared.pick.DrawnPick.{DrawnPick}
use Rattle.ame_drawing.specs.declared.span.TheConstants.{LANES}
use Rattle.ame_drawing.specs.Arrows.{arrows_from}
use Rattle.ame_drawing.specs.Causes.{causes_from}
use Rattle.ame_drawing.specs.Lanes.{lanes_below}
use Rattle.ame_drawing.specs.Spans.{count_from, spans}
use Rattle.ame_drawing.specs.Stamps.{stamps, made_by_stamp, made_by_entry}

-- the picks made these entries, one for one
abbrev pub AreMadeBy : List Entry → List DrawnPick → Type 0
AreMadeBy entries picks = map made_by_stamp (stamps 0 picks) ≡ map made_by_entry entries

-- A drawing shows these picks on these seats, each attempt on them, each of these entries at the pick that made it, and which of these
-- started or woke a member, given the entry that started each.
pub record IsDrawingOf (seats : ℕ) (picks : List DrawnPick) (entries : List Entry) (starters : List ℕ) (drawing : Drawing) : Type 0 where
  pub on : drawing.seats ≡ seats
  pub signs : drawing.picks.items ≡ picks
  pub boxes : drawing.attempts.items ≡ lanes_below seats picks
  pub leads : drawing.arrows.items ≡ arrows_from picks 0 picks
  pub caused : drawing.causes.items ≡ causes_from starters drawing.stamps.items drawing.places drawing.spans.items picks 0 picks
  pub lanes : drawing.places ≡ min (count_from 0 picks) LANES
  pub owned : drawing.spans.items ≡ spans drawing.places picks
  pub marks : drawing.stamps.items ≡ stamps 0 picks
  pub entries_shown : map made_by_stamp drawing.stamps.items ≡ map made_by_entry entries
