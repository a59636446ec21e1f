-- An attempt that looks committed or visited made such an entry.
use Rattle.std.proofs.Common.{◌≡◌, ℕ, ◌+◌, Bool, true, false, cond, List, [], ◌∷◌, Option, Some, None, All, refl}
use Rattle.std.specs.Prelude.{IfSome}
use Rattle.std.proofs.lemmas.List.Elements.{All-nil, All-cons}
use Rattle.ame_journal.specs.declared.entry.EntryKind.{EntryKind}
use Rattle.ame_drawing.specs.declared.lane.DrawnAttempt.{DrawnAttempt}
use Rattle.ame_drawing.specs.declared.lane.Entered.{Entered}
use Rattle.ame_drawing.specs.declared.lane.Fate.{Fate}
use Rattle.ame_drawing.specs.declared.pick.Did.{Did}
use Rattle.ame_drawing.specs.declared.pick.DrawnPick.{DrawnPick}
use Rattle.ame_drawing.specs.Lanes.{fate_after, number_after, entry_then, grown, lane_from, lane, kind_shown, kind_entered, FitsFate}
use Rattle.ame_drawing.specs.Picks.{is_work_of, is_last, kind_made}

-- an attempt that goes on looks neither committed nor visited
stays : (did : Did) (before : Fate) → kind_shown before ≡ None → is_last did ≡ false → kind_shown (fate_after before did) ≡ None
stays Did.Ended before fresh l = absurd (cc)
stays Did.Left before fresh l = absurd (cc)
stays Did.CameHome before fresh l = absurd (cc)
stays (Did.DeviceFailed device) before fresh l = refl
stays (Did.Met owner) before fresh l = refl
stays Did.FoundInvalid before fresh l = refl
stays Did.Noted before fresh l = refl
stays Did.GrewTall before fresh l = refl
stays Did.Cut before fresh l = refl
stays Did.Spent before fresh l = refl
stays _ before fresh l = fresh

-- and one that comes to look so has made such an entry with its last pick
fits : (did : Did) (before : Fate) (entry : Option Entered) (n : ℕ) (kind : EntryKind) → kind_shown before ≡ None →
    kind_shown (fate_after before did) ≡ Some kind → kind_entered (entry_then entry n (kind_made did)) ≡ Some kind
fits Did.Ended before entry n kind fresh e = e
fits Did.Left before entry n kind fresh e = e
fits Did.CameHome before entry n kind fresh e = e
fits (Did.DeviceFailed device) before entry n kind fresh e = absurd (cc)
fits (Did.Met owner) before entry n kind fresh e = absurd (cc)
fits Did.FoundInvalid before entry n kind fresh e = absurd (cc)
fits Did.Noted before entry n kind fresh e = absurd (cc)
fits Did.GrewTall before entry n kind fresh e = absurd (cc)
fits Did.Cut before entry n kind fresh e = absurd (cc)
fits Did.Spent before entry n kind fresh e = absurd (cc)
fits _ before entry n kind fresh e = absurd (cc)

-- the attempt that has begun looks neither
abbrev IsPlain : Option DrawnAttempt → Type 0
IsPlain begun = IfSome begun (λ attempt. kind_shown attempt.fate ≡ None)

grown_plain : (n k : ℕ) (pick : DrawnPick) (begun : Option DrawnAttempt) → IsPlain begun → is_last pick.did ≡ false → IsPlain (Some (grown n k pick begun))
grown_plain n k pick None is l = stays pick.did Fate.UnderWay refl l
grown_plain n k pick (Some attempt) is l = stays pick.did attempt.fate is l

grown_fits : (n k : ℕ) (pick : DrawnPick) (begun : Option DrawnAttempt) → IsPlain begun → FitsFate (grown n k pick begun)
grown_fits n k pick None is = λ kind e. fits pick.did Fate.UnderWay None n kind refl e
grown_fits n k pick (Some attempt) is = λ kind e. fits pick.did attempt.fate attempt.entry n kind is e

fate_at : (attempt : DrawnAttempt) (ended begun idle : List DrawnAttempt) (works last : Bool) → FitsFate attempt → All FitsFate ended → (last ≡ false → All FitsFate begun) →
    All FitsFate idle → All FitsFate (cond works (cond last (attempt ∷ ended) begun) idle)
fate_at attempt ended begun idle false last fit a b c = c
fate_at attempt ended begun idle true false fit a b c = b refl
fate_at attempt ended begun idle true true fit a b c = All-cons FitsFate attempt ended fit a

fates_from : (seat n k : ℕ) (begun : Option DrawnAttempt) (picks : List DrawnPick) → IsPlain begun → All FitsFate (lane_from seat n k begun picks)
fates_from seat n k None [] is = All-nil FitsFate
fates_from seat n k (Some attempt) [] is = All-cons FitsFate attempt [] (λ kind e. absurd (cc)) (All-nil FitsFate)
fates_from seat n k begun (pick ∷ picks) is =
    let next : ℕ = number_after n (kind_made pick.did) in
    let attempt : DrawnAttempt = grown n k pick begun in
    fate_at attempt (lane_from seat next (k + 1) None picks) (lane_from seat next (k + 1) (Some attempt) picks) (lane_from seat next (k + 1) begun picks)
    (is_work_of seat pick) (is_last pick.did) (grown_fits n k pick begun is) (fates_from seat next (k + 1) None picks _)
    (λ open_still. fates_from seat next (k + 1) (Some attempt) picks (grown_plain n k pick begun is open_still)) (fates_from seat next (k + 1) begun picks is)

pub fates_fit : (seat : ℕ) (picks : List DrawnPick) → All FitsFate (lane seat picks)
fates_fit seat picks = fates_from seat 1 0 None picks _
