-- The look of an attempt determines its end.
use Rattle.std.proofs.Common.{◌≡◌, ℕ, zero, suc, ◌+◌, ◌<◌, Bool, true, false, cond, List, [], ◌∷◌, length, get_or, Option, Some, None, All, refl, ap, subst, ◌∙◌, arith}
use Rattle.std.specs.Prelude.{IfSome}
use Rattle.std.proofs.lemmas.List.{get_or_default}
use Rattle.std.proofs.lemmas.List.Elements.{All-nil, All-cons, Contains-append_right}
use Rattle.ame_drawing.specs.declared.lane.DrawnAttempt.{DrawnAttempt}
use Rattle.ame_drawing.specs.declared.lane.Fate.{Fate}
use Rattle.ame_drawing.specs.declared.pick.Did.{Did}
use Rattle.ame_drawing.specs.declared.pick.DrawnPick.{DrawnPick}
use Rattle.ame_drawing.specs.Picks.{is_work_of, is_last, kind_made}
use Rattle.ame_drawing.specs.Lanes.{fate_after, fate_made, end_made, number_after, grown, lane_from, lane, EndsSo, LooksAsEnded}

made_is_last : (did : Did) (fate : Fate) → fate_made did ≡ Some fate → is_last did ≡ true
made_is_last Did.Ended fate e = refl
made_is_last Did.Left fate e = refl
made_is_last Did.CameHome fate e = refl
made_is_last _ fate e = absurd (cc)

made_is_after : (did : Did) (fate before : Fate) → fate_made did ≡ Some fate → fate_after before did ≡ fate
made_is_after Did.Ended fate before e = cc
made_is_after Did.Left fate before e = cc
made_is_after Did.CameHome fate before e = cc
made_is_after _ fate before e = absurd (cc)

grown_to : (m k : ℕ) (pick : DrawnPick) (begun : Option DrawnAttempt) → (grown m k pick begun).to ≡ k
grown_to m k pick None = refl
grown_to m k pick (Some attempt) = refl

grown_looks : (m k : ℕ) (pick : DrawnPick) (begun : Option DrawnAttempt) (fate : Fate) → fate_made pick.did ≡ Some fate → (grown m k pick begun).fate ≡ fate
grown_looks m k pick None fate e = made_is_after pick.did fate Fate.UnderWay e
grown_looks m k pick (Some attempt) fate e = made_is_after pick.did fate attempt.fate e

at_first : (seat m k : ℕ) (begun : Option DrawnAttempt) (pick : DrawnPick) (rest some other : List DrawnAttempt) (fate : Fate) (works last : Bool) → is_work_of seat pick ≡ works →
    is_last pick.did ≡ last → is_work_of seat pick ≡ true → fate_made pick.did ≡ Some fate →
    EndsSo (cond works (cond last (grown m k pick begun ∷ rest) some) other) k fate
at_first seat m k begun pick rest some other fate false last w l works made = absurd (cc)
at_first seat m k begun pick rest some other fate true false w l works made =
    let is = made_is_last pick.did fate made in
    absurd (cc)
at_first seat m k begun pick rest some other fate true true w l works made = record {
  one = grown m k pick begun;
  among = (0, omega arith, refl);
  last = grown_to m k pick begun;
  looks = grown_looks m k pick begun fate made;
}

behind : (box : DrawnAttempt) (rest : List DrawnAttempt) (n : ℕ) (fate : Fate) → EndsSo rest n fate → EndsSo (box ∷ rest) n fate
behind box rest n fate ends = record { one = ends.one; among = Contains-append_right (box ∷ []) rest ends.one ends.among; last = ends.last; looks = ends.looks }

at_later : (box : DrawnAttempt) (rest some other : List DrawnAttempt) (n : ℕ) (fate : Fate) (works last : Bool) → EndsSo rest n fate → EndsSo some n fate → EndsSo other n fate →
    EndsSo (cond works (cond last (box ∷ rest) some) other) n fate
at_later box rest some other n fate false last one two three = three
at_later box rest some other n fate true true one two three = behind box rest n fate one
at_later box rest some other n fate true false one two three = two

ends_from : (seat : ℕ) (picks : List DrawnPick) (m k : ℕ) (begun : Option DrawnAttempt) (j : ℕ) (d : DrawnPick) (fate : Fate) → j < length picks →
    is_work_of seat (get_or picks j d) ≡ true → fate_made (get_or picks j d).did ≡ Some fate → EndsSo (lane_from seat m k begun picks) (k + j) fate
ends_from seat [] m k begun j d fate below works made = absurd (omega (arith, below))
ends_from seat (pick ∷ picks) m k begun zero d fate below works made =
    let next : ℕ = number_after m (kind_made pick.did) in
    let e : k ≡ k + 0 = omega arith in
    let P : ℕ → Type 0 = λ n. EndsSo (lane_from seat m k begun (pick ∷ picks)) n fate in
    subst P e
    (at_first seat m k begun pick (lane_from seat next (k + 1) None picks) (lane_from seat next (k + 1) (Some (grown m k pick begun)) picks) (lane_from seat next (k + 1) begun picks) fate
    (is_work_of seat pick) (is_last pick.did) refl refl works made)
ends_from seat (pick ∷ picks) m k begun (suc i) d fate below works made =
    let next : ℕ = number_after m (kind_made pick.did) in
    let e : k + 1 + i ≡ k + suc i = omega arith in
    let within : i < length picks = omega (arith, below) in
    let P : Option DrawnAttempt → ℕ → Type 0 = λ o n. EndsSo (lane_from seat next (k + 1) o picks) n fate in
    let on : (o : Option DrawnAttempt) → P o (k + suc i) = (λ o. (let Q : ℕ → Type 0 = P o in subst Q e (ends_from seat picks next (k + 1) o i d fate within works made))) in
    at_later (grown m k pick begun) (lane_from seat next (k + 1) None picks) (lane_from seat next (k + 1) (Some (grown m k pick begun)) picks) (lane_from seat next (k + 1) begun picks)
    (k + suc i) fate (is_work_of seat pick) (is_last pick.did) (on None) (on (Some (grown m k pick begun))) (on begun)

pub ends_so : (seat : ℕ) (picks : List DrawnPick) (k : ℕ) (d : DrawnPick) (fate : Fate) → k < length picks → is_work_of seat (get_or picks k d) ≡ true →
    fate_made (get_or picks k d).did ≡ Some fate → EndsSo (lane seat picks) k fate
ends_so seat picks k d fate below works made =
    let e : 0 + k ≡ k = omega arith in
    let P : ℕ → Type 0 = λ n. EndsSo (lane seat picks) n fate in
    subst P e (ends_from seat picks 1 0 None k d fate below works made)

-- an attempt that goes on doesn't look ended
stays_open : (did : Did) (before : Fate) → end_made before ≡ None → is_last did ≡ false → end_made (fate_after before did) ≡ None
stays_open Did.Ended before fresh l = absurd (cc)
stays_open Did.Left before fresh l = absurd (cc)
stays_open Did.CameHome before fresh l = absurd (cc)
stays_open (Did.DeviceFailed device) before fresh l = refl
stays_open (Did.Met owner) before fresh l = refl
stays_open Did.FoundInvalid before fresh l = refl
stays_open Did.Noted before fresh l = refl
stays_open Did.GrewTall before fresh l = refl
stays_open Did.Cut before fresh l = refl
stays_open Did.Spent before fresh l = refl
stays_open _ before fresh l = fresh

-- and one that ends looks as its last pick says
ends_as : (did told : Did) (before : Fate) → end_made before ≡ None → end_made (fate_after before did) ≡ Some told → did ≡ told
ends_as Did.Ended told before fresh e = cc
ends_as Did.Left told before fresh e = cc
ends_as Did.CameHome told before fresh e = cc
ends_as (Did.DeviceFailed device) told before fresh e = absurd (cc)
ends_as (Did.Met owner) told before fresh e = absurd (cc)
ends_as Did.FoundInvalid told before fresh e = absurd (cc)
ends_as Did.Noted told before fresh e = absurd (cc)
ends_as Did.GrewTall told before fresh e = absurd (cc)
ends_as Did.Cut told before fresh e = absurd (cc)
ends_as Did.Spent told before fresh e = absurd (cc)
ends_as _ told before fresh e = absurd (cc)

-- the attempt that has begun doesn't look ended
abbrev IsOpen : Option DrawnAttempt → Type 0
IsOpen begun = IfSome begun (λ attempt. end_made attempt.fate ≡ None)

-- the pick k of all
abbrev IsAt : List DrawnPick → ℕ → DrawnPick → Type 0
IsAt all k pick = (d : DrawnPick) → get_or all k d ≡ pick

grown_open : (m k : ℕ) (pick : DrawnPick) (begun : Option DrawnAttempt) → IsOpen begun → is_last pick.did ≡ false → IsOpen (Some (grown m k pick begun))
grown_open m k pick None is l = stays_open pick.did Fate.UnderWay refl l
grown_open m k pick (Some attempt) is l = stays_open pick.did attempt.fate is l

grown_ends : (all : List DrawnPick) (m k : ℕ) (pick : DrawnPick) (begun : Option DrawnAttempt) → IsOpen begun → IsAt all k pick → LooksAsEnded all (grown m k pick begun)
grown_ends all m k pick None is at = λ did d e. let did_of : DrawnPick → Did = λ p. p.did in ap did_of (at d) ∙ ends_as pick.did did Fate.UnderWay refl e
grown_ends all m k pick (Some attempt) is at = λ did d e. let did_of : DrawnPick → Did = λ p. p.did in ap did_of (at d) ∙ ends_as pick.did did attempt.fate is e

step : (all : List DrawnPick) (box : DrawnAttempt) (rest some other : List DrawnAttempt) (works last : Bool) → LooksAsEnded all box → All (LooksAsEnded all) rest →
    (last ≡ false → All (LooksAsEnded all) some) → All (LooksAsEnded all) other → All (LooksAsEnded all) (cond works (cond last (box ∷ rest) some) other)
step all box rest some other false last is one two three = three
step all box rest some other true true is one two three = All-cons (LooksAsEnded all) box rest is one
step all box rest some other true false is one two three = two refl

looks_from : (all : List DrawnPick) (seat : ℕ) (picks : List DrawnPick) (m k : ℕ) (begun : Option DrawnAttempt) → IsOpen begun → ((j : ℕ) (d : DrawnPick) → j < length picks → IsAt all (k + j) (get_or picks j d)) →
    All (LooksAsEnded all) (lane_from seat m k begun picks)
looks_from all seat [] m k None is each = All-nil (LooksAsEnded all)
looks_from all seat [] m k (Some attempt) is each =
    All-cons (LooksAsEnded all) attempt [] (λ did d e. absurd (cc)) (All-nil (LooksAsEnded all))
looks_from all seat (pick ∷ picks) m k begun is each =
    let next : ℕ = number_after m (kind_made pick.did) in
    let first : 0 < length (pick ∷ picks) = omega arith in
    let stays : k + 0 ≡ k = omega arith in
    let P : ℕ → Type 0 = λ n. IsAt all n pick in
    let here = subst P stays (each 0 pick first) in
    let later : (j : ℕ) (d : DrawnPick) → j < length picks → IsAt all (k + 1 + j) (get_or picks j d) = (λ j d below.
    (let e : k + suc j ≡ k + 1 + j = omega arith in
    let within : suc j < length (pick ∷ picks) = omega (arith, below) in
    let Q : ℕ → Type 0 = λ n. IsAt all n (get_or picks j d) in
    subst Q e (each (suc j) d within))) in
    step all (grown m k pick begun) (lane_from seat next (k + 1) None picks) (lane_from seat next (k + 1) (Some (grown m k pick begun)) picks) (lane_from seat next (k + 1) begun picks)
    (is_work_of seat pick) (is_last pick.did) (grown_ends all m k pick begun is here) (looks_from all seat picks next (k + 1) None _ later)
    (λ l. looks_from all seat picks next (k + 1) (Some (grown m k pick begun)) (grown_open m k pick begun is l) later) (looks_from all seat picks next (k + 1) begun is later)

pub looks_ended : (seat : ℕ) (picks : List DrawnPick) → All (LooksAsEnded picks) (lane seat picks)
looks_ended seat picks = looks_from picks seat picks 1 0 None _ (λ j d below e. same j d e below)
  where
    same : (j : ℕ) (d e : DrawnPick) → j < length picks → get_or picks (0 + j) e ≡ get_or picks j d
    same j d e below = let zero_is : 0 + j ≡ j = omega arith in ap (λ n. get_or picks n e) zero_is ∙ get_or_default picks j e d below
