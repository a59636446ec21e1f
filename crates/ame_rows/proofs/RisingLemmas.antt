-- Locations in rising order.
use Rattle.std.proofs.Common.{◌≡◌, ℕ, ◌<◌, List, length, map, arith}
use Rattle.std.specs.Prelude.{nat_eq, IsPermutation}
use Rattle.std.specs.List.{IsDistinct}
use Rattle.std.specs.List.Sorted.{IsNonDecreasing, IsNonDecreasingBy, IsStrictlyIncreasing}
use Rattle.std.proofs.lemmas.Bool.Decides.{nat_tests}
use Rattle.std.proofs.lemmas.List.{length-map, get_or-map}
use Rattle.std.proofs.lemmas.Map.Keys.{IsStrictlyIncreasing-from_distinct, IsDistinct-IsPermutation}
use Rattle.ame_term.specs.declared.types.Loc.{Loc}

flips : (x y : ℕ) → nat_eq x y ≡ nat_eq y x
flips x y = grind (arith, nat_tests)

non_decreasing : (locs : List Loc) → IsNonDecreasingBy (λ l. l.0) locs → IsNonDecreasing (map (λ (l : Loc). l.0) locs)
non_decreasing locs h = λ i j d le lt.
    let within : j < length locs = omega (arith, lt, length-map locs (λ (l : Loc). l.0)) in
    let none : Loc = record { 0 = d } in
    let at_i = get_or-map (λ (l : Loc). l.0) locs i none d (omega (arith, le, within)) in
    let at_j = get_or-map (λ (l : Loc). l.0) locs j none d within in
    let rises = h i j none le within in
    omega (arith, at_i, at_j, rises)

-- each once, in rising order
pub strictly_rising : (locs : List Loc) (places : List ℕ) → IsDistinct nat_eq places → IsPermutation places (map (λ (l : Loc). l.0) locs)
    → IsNonDecreasingBy (λ l. l.0) locs → IsStrictlyIncreasing (map (λ (l : Loc). l.0) locs)
strictly_rising locs places once same rising =
    let numbers = map (λ (l : Loc). l.0) locs in
    IsStrictlyIncreasing-from_distinct numbers (non_decreasing locs rising)
    (IsDistinct-IsPermutation nat_eq (λ x y. flips x y) places numbers same once)
