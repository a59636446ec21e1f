-- The lane of a seat.
use Rattle.std.specs.Prelude.{slice_index_or, ◌≡◌, ℕ, zero, suc, ◌+◌, ◌<◌, ◌≤◌, if◌then◌else◌, List, [], ◌∷◌, ◌++◌, Option, Some, None, All, Contains, option_to_list, ⊤}
use Rattle.ame_journal.specs.declared.entry.EntryKind.{EntryKind}
use Rattle.ame_drawing.specs.declared.pick.Did.{Did}
use Rattle.ame_drawing.specs.declared.pick.DrawnPick.{DrawnPick}
use Rattle.ame_drawing.specs.declared.lane.Fate.{Fate}
use Rattle.ame_drawing.specs.declared.lane.DrawnAttempt.{DrawnAttempt}
use Rattle.ame_drawing.specs.declared.lane.Entered.{Entered}
use Rattle.ame_drawing.specs.Picks.{is_work_of, is_last, kind_made}

-- what becomes of an attempt in which this is done next
abbrev pub fate_after : Fate → Did → Fate
fate_after fate Did.Ended = Fate.Ended
fate_after fate Did.Left = Fate.Left
fate_after fate Did.CameHome = Fate.Visited
fate_after fate (Did.DeviceFailed device) = Fate.Failed
fate_after fate (Did.Met owner) = Fate.RolledBack
fate_after fate Did.FoundInvalid = Fate.RolledBack
fate_after fate Did.Noted = Fate.Stuck
fate_after fate Did.GrewTall = Fate.Tall
fate_after fate Did.Cut = Fate.Cut
fate_after fate Did.Spent = Fate.Cut
fate_after fate _ = fate

-- the number of the next entry, if a pick makes entry n or none
abbrev pub number_after : ℕ → Option EntryKind → ℕ
number_after n None = n
number_after n (Some kind) = n + 1

-- the entry that an attempt has made, if its next pick makes entry n or none
abbrev pub entry_then : Option Entered → ℕ → Option EntryKind → Option Entered
entry_then entry n None = entry
entry_then entry n (Some kind) = Some (record { number = n; kind = kind })

-- the attempt that has begun, if there is one, with pick k too, which makes entry n if it makes one; otherwise one that begins with it
abbrev pub grown : ℕ → ℕ → DrawnPick → Option DrawnAttempt → DrawnAttempt
grown n k pick None =
    record {
      seat = pick.seat;
      member = pick.member;
      from = k;
      to = k;
      fate = fate_after Fate.UnderWay pick.did;
      entry = entry_then None n (kind_made pick.did);
    }
grown n k pick (Some attempt) = record attempt { to = k; fate = fate_after attempt.fate pick.did; entry = entry_then attempt.entry n (kind_made pick.did) }

-- the attempts on a seat, if this one has begun, the first of the picks is pick k, and the next entry has number n
abbrev pub lane_from : ℕ → ℕ → ℕ → Option DrawnAttempt → List DrawnPick → List DrawnAttempt
lane_from seat n k begun [] = option_to_list begun
lane_from seat n k begun (pick ∷ picks) =
    let next = number_after n (kind_made pick.did) in
    if is_work_of seat pick then
    (if is_last pick.did then grown n k pick begun ∷ lane_from seat next (k + 1) None picks
    else lane_from seat next (k + 1) (Some (grown n k pick begun)) picks)
    else lane_from seat next (k + 1) begun picks

abbrev pub lane : ℕ → List DrawnPick → List DrawnAttempt
lane seat picks = lane_from seat 1 0 None picks

-- the attempts on a number of seats, lane by lane
abbrev pub lanes_below : ℕ → List DrawnPick → List DrawnAttempt
lanes_below zero picks = []
lanes_below (suc seats) picks = lanes_below seats picks ++ lane seats picks

-- an attempt on this seat, made of some of these picks
pub record IsAttemptOn (seat count : ℕ) (attempt : DrawnAttempt) : Type 0 where
  pub here : attempt.seat ≡ seat
  pub order : attempt.from ≤ attempt.to
  pub end : attempt.to < count

-- one after the other: none begins before the previous one is over
abbrev pub AreOneAfterOther : List DrawnAttempt → Type 0
AreOneAfterOther [] = ⊤
AreOneAfterOther (attempt ∷ attempts) = All (λ later. attempt.to < later.from) attempts × AreOneAfterOther attempts

-- pick k is from the first one of an attempt to its last
abbrev pub IsDuring : ℕ → DrawnAttempt → Type 0
IsDuring k attempt = (attempt.from ≤ k) × (k ≤ attempt.to)

-- pick k lies in one of these attempts, and in no other
pub record LiesInOne (attempts : List DrawnAttempt) (k : ℕ) : Type 0 where
  pub one : DrawnAttempt
  pub among : Contains attempts one
  pub lies : IsDuring k one
  pub alone : All (λ other. IsDuring k other → other ≡ one) attempts

-- how an attempt looks that such a pick ends with an entry, and which pick ends one that looks so
abbrev pub fate_made : Did → Option Fate
fate_made Did.Ended = Some Fate.Ended
fate_made Did.Left = Some Fate.Left
fate_made Did.CameHome = Some Fate.Visited
fate_made _ = None

abbrev pub end_made : Fate → Option Did
end_made Fate.Ended = Some Did.Ended
end_made Fate.Left = Some Did.Left
end_made Fate.Visited = Some Did.CameHome
end_made _ = None

-- one of these attempts ends with pick k, and looks so
pub record EndsSo (attempts : List DrawnAttempt) (k : ℕ) (fate : Fate) : Type 0 where
  pub one : DrawnAttempt
  pub among : Contains attempts one
  pub last : one.to ≡ k
  pub looks : one.fate ≡ fate

-- if an attempt looks as if a pick had ended it with an entry, its last pick did
abbrev pub LooksAsEnded : List DrawnPick → DrawnAttempt → Type 0
LooksAsEnded picks attempt = (did : Did) (d : DrawnPick) → end_made attempt.fate ≡ Some did → (slice_index_or picks attempt.to d).did ≡ did

-- the kind of the entry that an attempt looks to have made, if it looks committed or visited
abbrev pub kind_shown : Fate → Option EntryKind
kind_shown Fate.Ended = Some EntryKind.Ran
kind_shown Fate.Left = Some EntryKind.Ran
kind_shown Fate.Visited = Some EntryKind.Free
kind_shown _ = None

abbrev pub kind_entered : Option Entered → Option EntryKind
kind_entered None = None
kind_entered (Some entry) = Some entry.kind

-- if an attempt looks committed or visited, it made such an entry
abbrev pub FitsFate : DrawnAttempt → Type 0
FitsFate attempt = (kind : EntryKind) → kind_shown attempt.fate ≡ Some kind → kind_entered attempt.entry ≡ Some kind
