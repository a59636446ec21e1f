-- Which commit let a member begin: the one that started it, or the one that woke it.
use Rattle.std.specs.Prelude.{ℕ, zero, suc, ◌+◌, ◌-◌, ◌==◌, ◌&&◌, nat_lt, if◌then◌else◌, Bool, true, false, List, [], ◌∷◌, ◌++◌, take}
use Rattle.std.specs.Prelude.{slice_get, Option, Some, None, option_to_list}
use Rattle.std.specs.List.{fold}
use Rattle.ame_drawing.specs.declared.arrow.Arrow.{Arrow}
use Rattle.ame_drawing.specs.declared.arrow.ArrowKind.{ArrowKind}
use Rattle.ame_drawing.specs.declared.arrow.Sought.{Sought}
use Rattle.ame_drawing.specs.declared.arrow.Spot.{Spot}
use Rattle.ame_drawing.specs.declared.cause.Touch.{Touch}
use Rattle.ame_drawing.specs.declared.cause.Wait.{Wait}
use Rattle.ame_drawing.specs.declared.pick.Did.{Did}
use Rattle.ame_drawing.specs.declared.pick.DrawnPick.{DrawnPick}
use Rattle.ame_drawing.specs.declared.span.SpanEnd.{SpanEnd}
use Rattle.ame_drawing.specs.declared.span.Span.{Span}
use Rattle.ame_drawing.specs.declared.stamp.Stamp.{Stamp}
use Rattle.ame_drawing.specs.Arrows.{between, last_spot, spot_of}
use Rattle.ame_drawing.specs.Picks.{is_read_of, is_work, is_write_to}

-- A member waits for a location that it read and hadn't written before.
abbrev pub touch_after : ℕ → DrawnPick → Touch → Touch
touch_after place pick Touch.Untouched =
    if is_write_to place pick then Touch.Owned else (if is_read_of place pick then Touch.Watched else Touch.Untouched)
touch_after place pick touch = touch

-- its attempts begin untouched; if its condition is false it waits from then on
abbrev pub wait_by : ℕ → ℕ → DrawnPick → Did → Wait → Wait
wait_by place k pick Did.Began wait = record { touch = Touch.Untouched; since = None }
wait_by place k pick Did.Noted wait = record wait { since = Some k }
wait_by place k pick _ wait = record wait { touch = touch_after place pick wait.touch }

-- how far the wait of a member for a location has come with pick k
abbrev pub wait_after : ℕ → ℕ → ℕ → DrawnPick → Wait → Wait
wait_after member place k pick wait = if pick.member == member && is_work pick.did then wait_by place k pick pick.did wait else wait

abbrev pub wait_from : ℕ → ℕ → ℕ → Wait → List DrawnPick → Wait
wait_from member place k wait [] = wait
wait_from member place k wait (pick ∷ picks) = wait_from member place (k + 1) (wait_after member place k pick wait) picks

abbrev pub no_wait : Wait
no_wait = record { touch = Touch.Untouched; since = None }

abbrev pub since_by : Wait → Touch → Option ℕ
since_by wait Touch.Watched = wait.since
since_by wait _ = None

-- the pick since which a member waits for a location, after these picks
abbrev pub waits_since : ℕ → ℕ → List DrawnPick → Option ℕ
waits_since member place picks = since_by (wait_from member place 0 no_wait picks) (wait_from member place 0 no_wait picks).touch

abbrev pub is_committed : SpanEnd → Bool
is_committed SpanEnd.Committed = true
is_committed _ = false

-- whether what was written to a location was committed between two picks
abbrev pub is_release_between : ℕ → ℕ → ℕ → Span → Bool
is_release_between place since k span = is_committed span.outcome && (span.place == place && (nat_lt since span.to && nat_lt span.to k))

abbrev pub spot_at_end : Span → Spot
spot_at_end span = record { pick = span.to; seat = span.seat }

-- the earlier one of the first that is known, if there is one, and a spot
abbrev pub sooner : Spot → Option Spot → Spot
sooner spot None = spot
sooner spot (Some first) = if nat_lt spot.pick first.pick then spot else first

abbrev pub first_with : ℕ → ℕ → ℕ → Option Spot → Span → Option Spot
first_with place since k first span =
    if is_release_between place since k span then Some (sooner (spot_at_end span) first) else first

-- the first commit of a location between two picks, unless another is known that was before it
abbrev pub first_release : ℕ → ℕ → ℕ → Option Spot → List Span → Option Spot
first_release place since k first spans = fold (first_with place since k) first spans

abbrev pub waker_by : ℕ → ℕ → List Span → Option Spot → Option ℕ → Option Spot
waker_by place k spans first None = first
waker_by place k spans first (Some since) = first_release place since k first spans

-- The first commit before pick k of one of the locations for which the member waits, after these picks.
abbrev pub waker : ℕ → ℕ → ℕ → List Span → List DrawnPick → Option Spot
waker zero member k spans earlier = None
waker (suc place) member k spans earlier = waker_by place k spans (waker place member k spans earlier) (waits_since member place earlier)

abbrev pub spot_of_stamp : Option Stamp → Option Spot
spot_of_stamp None = None
spot_of_stamp (Some stamp) = Some (record { pick = stamp.pick; seat = stamp.seat })

-- the pick that made an entry, counted from 1
abbrev pub entry_pick : List Stamp → Option ℕ → Option Spot
entry_pick stamps None = None
entry_pick stamps (Some number) = if number == 0 then None else spot_of_stamp (slice_get stamps (number - 1))

-- the pick that started a member, given the entries that started members
abbrev pub starting_pick : List ℕ → List Stamp → ℕ → Option Spot
starting_pick starters stamps member = entry_pick stamps (slice_get starters member)

-- an arrow to the beginning of a member, if it is known from where
abbrev pub arrow_from : ArrowKind → ℕ → DrawnPick → Option Spot → Option Arrow
arrow_from kind k pick None = None
arrow_from kind k pick (Some spot) = Some (between kind pick.member spot (spot_of k pick))

-- The cause of pick k, with which its member begins: the member's last place of work was this, and these picks came before.
abbrev pub cause_behind : List ℕ → List Stamp → ℕ → List Span → ℕ → DrawnPick → List DrawnPick → Option Spot → Option Arrow
cause_behind starters stamps places spans k pick earlier None =
    arrow_from ArrowKind.Starts k pick (starting_pick starters stamps pick.member)
cause_behind starters stamps places spans k pick earlier (Some last) =
    arrow_from ArrowKind.Wakes k pick (waker places pick.member k spans earlier)

abbrev pub cause_by : List ℕ → List Stamp → ℕ → List Span → ℕ → DrawnPick → List DrawnPick → Did → Option Arrow
cause_by starters stamps places spans k pick earlier Did.Began =
    cause_behind starters stamps places spans k pick earlier (last_spot (Sought.Member pick.member) 0 None earlier)
cause_by starters stamps places spans k pick earlier _ = None

-- the causes of these picks out of all picks; the first of these is pick k
abbrev pub causes_from : List ℕ → List Stamp → ℕ → List Span → List DrawnPick → ℕ → List DrawnPick → List Arrow
causes_from starters stamps places spans all k [] = []
causes_from starters stamps places spans all k (pick ∷ picks) =
    option_to_list (cause_by starters stamps places spans k pick (take k all) pick.did)
    ++ causes_from starters stamps places spans all (k + 1) picks
