-- Arrows lead from picks to picks.
use Rattle.std.proofs.Common.{◌≡◌, ℕ, suc, ◌+◌, ◌<◌, Bool, true, false, cond, List, [], ◌∷◌, length, get_or, take, Option, Some, None, All, refl, sym, ap, subst, ◌∙◌, arith}
use Rattle.std.specs.Prelude.{IfSome, option_to_list}
use Rattle.std.proofs.lemmas.List.{length-take, get_or-take, get_or_default}
use Rattle.std.proofs.lemmas.List.Elements.{All-nil, All-cons, All-append}
use Rattle.ame_drawing.specs.declared.arrow.Arrow.{Arrow}
use Rattle.ame_drawing.specs.declared.arrow.Sought.{Sought}
use Rattle.ame_drawing.specs.declared.arrow.Spot.{Spot}
use Rattle.ame_drawing.specs.declared.pick.Did.{Did}
use Rattle.ame_drawing.specs.declared.pick.DrawnPick.{DrawnPick}
use Rattle.ame_drawing.specs.Arrows.{is_sought, spot_of, last_spot, continuation, obstacle, obstacle_at, arrow_by, arrows_from, IsPickOn, LeadsAmong}

-- the next spot: this pick, or the one before
next : (P : ℕ → ℕ → Type 0) (spot : Spot) (last : Option Spot) (b : Bool) → IfSome last (λ s. P s.pick s.seat) → P spot.pick spot.seat →
    IfSome (cond b (Some spot) last) (λ s. P s.pick s.seat)
next P spot last true was here = here
next P spot last false was here = was

-- what is so of each pick is so of a spot
spot_holds : (P : ℕ → ℕ → Type 0) (sought : Sought) (picks : List DrawnPick) (k : ℕ) (last : Option Spot) → IfSome last (λ s. P s.pick s.seat) →
    ((j : ℕ) (d : DrawnPick) → j < length picks → P (k + j) (get_or picks j d).seat) → IfSome (last_spot sought k last picks) (λ s. P s.pick s.seat)
spot_holds P sought [] k last was each = was
spot_holds P sought (pick ∷ picks) k last was each =
    let spot : Spot = record { pick = k; seat = pick.seat } in
    let first : 0 < length (pick ∷ picks) = omega arith in
    let stays : k + 0 ≡ k = omega arith in
    let Q : ℕ → Type 0 = λ i. P i pick.seat in
    spot_holds P sought picks (k + 1) (cond (is_sought sought pick) (Some spot) last) (next P spot last (is_sought sought pick) was (subst Q stays (each 0 pick first)))
    (λ j d below.
    let e : k + suc j ≡ k + 1 + j = omega arith in
    let within : suc j < length (pick ∷ picks) = omega (arith, below) in
    let R : ℕ → Type 0 = λ i. P i (get_or picks j d).seat in
    subst R e (each (suc j) d within))

continues : (all : List DrawnPick) (k : ℕ) (pick : DrawnPick) (o : Option Spot) → IfSome o (λ s. IsPickOn all s.pick s.seat) → IsPickOn all k pick.seat →
    IfSome (continuation pick o (spot_of k pick)) (LeadsAmong all)
continues all k pick None is here = _
continues all k pick (Some spot) is here = record { begins = is; ends = here }

hinders : (all : List DrawnPick) (k : ℕ) (pick : DrawnPick) (o : Option Spot) → IfSome o (λ s. IsPickOn all s.pick s.seat) → IsPickOn all k pick.seat →
    IfSome (obstacle pick o (spot_of k pick)) (LeadsAmong all)
hinders all k pick None is here = _
hinders all k pick (Some spot) is here = record { begins = here; ends = is }

hinders_at : (all : List DrawnPick) (k : ℕ) (pick : DrawnPick) (owner : ℕ) (earlier : List DrawnPick) (place : Option ℕ) →
    ((j : ℕ) (d : DrawnPick) → j < length earlier → IsPickOn all (0 + j) (get_or earlier j d).seat) → IsPickOn all k pick.seat →
    IfSome (obstacle_at k pick owner earlier place) (LeadsAmong all)
hinders_at all k pick owner earlier None each here = _
hinders_at all k pick owner earlier (Some place) each here =
    hinders all k pick (last_spot (Sought.Write owner place) 0 None earlier) (spot_holds (IsPickOn all) (Sought.Write owner place) earlier 0 None _ each) here

leads : (all : List DrawnPick) (k : ℕ) (pick : DrawnPick) (earlier : List DrawnPick) (did : Did) →
    ((j : ℕ) (d : DrawnPick) → j < length earlier → IsPickOn all (0 + j) (get_or earlier j d).seat) → IsPickOn all k pick.seat →
    IfSome (arrow_by k pick earlier did) (LeadsAmong all)
leads all k pick earlier Did.Began each here =
    continues all k pick (last_spot (Sought.Member pick.member) 0 None earlier) (spot_holds (IsPickOn all) (Sought.Member pick.member) earlier 0 None _ each) here
leads all k pick earlier (Did.Met owner) each here = hinders_at all k pick owner earlier pick.place each here
leads all k pick earlier _ each here = _

pub listed : (all : List DrawnPick) (o : Option Arrow) → IfSome o (LeadsAmong all) → All (LeadsAmong all) (option_to_list o)
listed all None is = All-nil (LeadsAmong all)
listed all (Some arrow) is = All-cons (LeadsAmong all) arrow [] is (All-nil (LeadsAmong all))

-- a pick before pick k
earlier_is : (all : List DrawnPick) (k j : ℕ) (d : DrawnPick) → j < length (take k all) → IsPickOn all (0 + j) (get_or (take k all) j d).seat
earlier_is all k j d below =
    let cut = length-take k all in
    let low : j < k = omega (arith, below, cut) in
    let within : j < length all = omega (arith, below, cut) in
    let seat : DrawnPick → ℕ = λ p. p.seat in
    let e : j ≡ 0 + j = omega arith in
    let P : ℕ → Type 0 = λ i. IsPickOn all i (get_or (take k all) j d).seat in
    subst P e (record { within = within; on = λ other. ap seat (get_or_default all j other d within ∙ sym (get_or-take k all j d low)) })

-- these picks are all from pick k on
abbrev pub Follows : List DrawnPick → ℕ → List DrawnPick → Type 0
Follows all k picks = (j : ℕ) (d : DrawnPick) → j < length picks → (k + j < length all) × (get_or all (k + j) d ≡ get_or picks j d)

pub pick_here : (all : List DrawnPick) (k : ℕ) (pick : DrawnPick) (picks : List DrawnPick) → Follows all k (pick ∷ picks) → IsPickOn all k pick.seat
pick_here all k pick picks follows =
    let first : 0 < length (pick ∷ picks) = omega arith in
    let stays : k + 0 ≡ k = omega arith in
    let seat : DrawnPick → ℕ = λ p. p.seat in
    let P : ℕ → Type 0 = λ i. IsPickOn all i pick.seat in
    subst P stays (record { within = (follows 0 pick first).0; on = λ d. ap seat (follows 0 d first).1 })

pub picks_behind : (all : List DrawnPick) (k : ℕ) (pick : DrawnPick) (picks : List DrawnPick) → Follows all k (pick ∷ picks) → Follows all (k + 1) picks
picks_behind all k pick picks follows j d below =
    let e : k + suc j ≡ k + 1 + j = omega arith in
    let within : suc j < length (pick ∷ picks) = omega (arith, below) in
    let Q : ℕ → Type 0 = λ i. (i < length all) × (get_or all i d ≡ get_or picks j d) in
    subst Q e (follows (suc j) d within)

pub whole_follows : (all : List DrawnPick) → Follows all 0 all
whole_follows all j d below =
    let e : j ≡ 0 + j = omega arith in
    let Q : ℕ → Type 0 = λ i. (i < length all) × (get_or all i d ≡ get_or all j d) in
    subst Q e (below, refl)

leads_from : (all picks : List DrawnPick) (k : ℕ) → Follows all k picks → All (LeadsAmong all) (arrows_from all k picks)
leads_from all [] k follows = All-nil (LeadsAmong all)
leads_from all (pick ∷ picks) k follows =
    All-append (LeadsAmong all) (option_to_list (arrow_by k pick (take k all) pick.did)) (arrows_from all (k + 1) picks)
    (listed all (arrow_by k pick (take k all) pick.did) (leads all k pick (take k all) pick.did (earlier_is all k) (pick_here all k pick picks follows)))
    (leads_from all picks (k + 1) (picks_behind all k pick picks follows))

pub arrows_lead : (picks : List DrawnPick) → All (LeadsAmong picks) (arrows_from picks 0 picks)
arrows_lead picks = leads_from picks picks 0 (whole_follows picks)
