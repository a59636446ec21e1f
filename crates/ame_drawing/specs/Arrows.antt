-- Which pick an arrow leads from, and to which.
use Rattle.std.specs.Prelude.{◌≡◌, ◌<◌, length, slice_index_or, ℕ, ◌+◌, ◌==◌, ◌&&◌, if◌then◌else◌}
use Rattle.std.specs.Prelude.{Bool, List, [], ◌∷◌, ◌++◌, take, Option, Some, None, option_to_list}
use Rattle.ame_drawing.specs.declared.pick.Did.{Did}
use Rattle.ame_drawing.specs.declared.pick.DrawnPick.{DrawnPick}
use Rattle.ame_drawing.specs.declared.arrow.Arrow.{Arrow}
use Rattle.ame_drawing.specs.declared.arrow.ArrowKind.{ArrowKind}
use Rattle.ame_drawing.specs.declared.arrow.Sought.{Sought}
use Rattle.ame_drawing.specs.declared.arrow.Spot.{Spot}
use Rattle.ame_drawing.specs.Picks.{is_work, is_write_to}

-- whether a pick is one that is sought
abbrev pub is_sought : Sought → DrawnPick → Bool
is_sought (Sought.Member member) pick = pick.member == member && is_work pick.did
is_sought (Sought.Write seat place) pick = pick.seat == seat && is_write_to place pick

-- where pick k is
abbrev pub spot_of : ℕ → DrawnPick → Spot
spot_of k pick = record { pick = k; seat = pick.seat }

-- the last one that is sought, if this was the last before pick k
abbrev pub last_spot : Sought → ℕ → Option Spot → List DrawnPick → Option Spot
last_spot sought k last [] = last
last_spot sought k last (pick ∷ picks) =
    last_spot sought (k + 1) (if is_sought sought pick then Some (spot_of k pick) else last) picks

-- an arrow of a member from a spot to another
abbrev pub between : ArrowKind → ℕ → Spot → Spot → Arrow
between kind member from to =
    record { kind = kind; member = member; from = from.pick; from_seat = from.seat; to = to.pick; to_seat = to.seat }

-- a member continues at its last place of work
abbrev pub continuation : DrawnPick → Option Spot → Spot → Option Arrow
continuation pick None here = None
continuation pick (Some last) here = Some (between ArrowKind.GoesOn pick.member last here)

-- the owner's last write was in the way
abbrev pub obstacle : DrawnPick → Option Spot → Spot → Option Arrow
obstacle pick None here = None
obstacle pick (Some write) here = Some (between ArrowKind.InTheWay pick.member here write)

-- what a refused write met
abbrev pub obstacle_at : ℕ → DrawnPick → ℕ → List DrawnPick → Option ℕ → Option Arrow
obstacle_at k pick owner earlier None = None
obstacle_at k pick owner earlier (Some place) = obstacle pick (last_spot (Sought.Write owner place) 0 None earlier) (spot_of k pick)

-- the arrow of pick k, if these picks were made before it
abbrev pub arrow_by : ℕ → DrawnPick → List DrawnPick → Did → Option Arrow
arrow_by k pick earlier Did.Began = continuation pick (last_spot (Sought.Member pick.member) 0 None earlier) (spot_of k pick)
arrow_by k pick earlier (Did.Met owner) = obstacle_at k pick owner earlier pick.place
arrow_by k pick earlier _ = None

-- the arrows of these picks out of all picks; the first of these is pick k
abbrev pub arrows_from : List DrawnPick → ℕ → List DrawnPick → List Arrow
arrows_from all k [] = []
arrows_from all k (pick ∷ picks) = option_to_list (arrow_by k pick (take k all) pick.did) ++ arrows_from all (k + 1) picks

-- pick k is one of these, and on this seat
pub record IsPickOn (picks : List DrawnPick) (k seat : ℕ) : Type 0 where
  pub within : k < length picks
  pub on : (d : DrawnPick) → (slice_index_or picks k d).seat ≡ seat

-- an arrow leads from one of these picks to one of them, each on the arrow's seat
pub record LeadsAmong (picks : List DrawnPick) (arrow : Arrow) : Type 0 where
  pub begins : IsPickOn picks arrow.from arrow.from_seat
  pub ends : IsPickOn picks arrow.to arrow.to_seat
