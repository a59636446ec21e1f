-- The lanes of a picture by fragments.
use Rattle.std.specs.Prelude.{ℕ, ◌+◌, ◌==◌, min, max, if◌then◌else◌, Bool, false, List, [], ◌∷◌, slice_get, Option, Some, None}
use Rattle.std.specs.List.{fold}
use Rattle.ame_drawing.specs.declared.arrow.Spot.{Spot}
use Rattle.ame_drawing.specs.declared.course.TheConstants.{LAST_LANE}
use Rattle.ame_drawing.specs.declared.moment.Moment.{Moment}

abbrev pub fragment_of : Moment → ℕ
fragment_of (Moment.Entry done) = done.fragment
fragment_of (Moment.Try lost) = lost.number

-- whether a moment is entry n
abbrev pub has_number : ℕ → Moment → Bool
has_number n (Moment.Entry done) = done.entry == n
has_number n (Moment.Try lost) = false

-- the lane of a task; those from the last lane's number on share it
abbrev pub lane_up_to : ℕ → ℕ → ℕ
lane_up_to last fragment = min fragment last

-- how many lanes there are with that of a moment
abbrev pub lanes_with : ℕ → ℕ → Moment → ℕ
lanes_with last n moment = max n (lane_up_to last (fragment_of moment) + 1)

-- how many lanes these moments have
abbrev pub lanes_up_to : ℕ → List Moment → ℕ
lanes_up_to last moments = fold (lanes_with last) 0 moments

-- the column and the lane of entry n, if the first of these moments is in column k
abbrev pub entry_spot : ℕ → ℕ → List Moment → Option Spot
entry_spot n k [] = None
entry_spot n k (moment ∷ moments) =
    if has_number n moment then Some (record { pick = k; seat = lane_up_to LAST_LANE (fragment_of moment) }) else entry_spot n (k + 1) moments

abbrev pub spot_by : List Moment → Option ℕ → Option Spot
spot_by moments None = None
spot_by moments (Some n) = entry_spot n 0 moments

-- the start of a lane's task, if its entry is known
abbrev pub birth : List ℕ → List Moment → ℕ → Option Spot
birth starters moments lane = if lane == LAST_LANE then None else spot_by moments (slice_get starters lane)
