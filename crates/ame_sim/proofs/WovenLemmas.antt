-- Picks with their outcomes, kept as picks and mades.
use Rattle.std.proofs.Common.{◌≡◌, ℕ, ◌+◌, Bool, true, false, not, cond, List, [], ◌∷◌, ◌++◌, length, refl, sym, ap, ◌∙◌, subst, append-nil, arith}
use Rattle.std.proofs.lemmas.List.{length-append, map-append}
use Rattle.std.proofs.lemmas.List.Sums.{sum_by-append, sum_by-cons}
use Rattle.ame_sim.specs.declared.made.Made.{Made}
use Rattle.ame_sim.specs.declared.picked.Picked.{Picked}
use Rattle.ame_sim.specs.Questions.{turns_of}
use Rattle.ame_sim.specs.Picks.{is_waited, picked_by, picks_of}
use Rattle.ame_sim.specs.Woven.{waited_at, woven, AreOfPicks, WaitsPlainly}

-- what a pick in front did that waited
woven-waited : (seat : ℕ) (picks : List Picked) (mades : List Made)
    → woven (record { seat = seat; waited = true } ∷ picks) mades ≡ waited_at seat ∷ woven picks mades
woven-waited seat picks [] = refl
woven-waited seat picks (made ∷ mades) = refl

-- a pick in front that did something has a made
some-made : (seat : ℕ) (picks : List Picked) → turns_of (record { seat = seat; waited = false } ∷ picks) ≡ 0 → ⊥
some-made seat picks all =
    let turns = sum_by-cons (λ (p : Picked). cond (not p.waited) 1 0) (record { seat = seat; waited = false }) picks in
    omega (arith, turns, all)

-- More picks do what is their own.
abbrev GoesOn : List Picked → Type 0
GoesOn picks =
    (more : List Picked) (mades rest : List Made) → turns_of picks ≡ length mades → woven (picks ++ more) (mades ++ rest) ≡ woven picks mades ++ woven more rest

goes-by : (seat : ℕ) (waited : Bool) (picks : List Picked) → GoesOn picks → GoesOn (record { seat = seat; waited = waited } ∷ picks)
goes-by seat true picks goes more mades rest all =
    let turns = sum_by-cons (λ (p : Picked). cond (not p.waited) 1 0) (record { seat = seat; waited = true }) picks in
    let its : turns_of picks ≡ length mades = omega (arith, turns, all) in
    woven-waited seat (picks ++ more) (mades ++ rest) ∙ ap (λ t. waited_at seat ∷ t) (goes more mades rest its)
    ∙ ap (λ t. t ++ woven more rest) (sym (woven-waited seat picks mades))
goes-by seat false picks goes more [] rest all = absurd (some-made seat picks all)
goes-by seat false picks goes more (made ∷ mades) rest all =
    let turns = sum_by-cons (λ (p : Picked). cond (not p.waited) 1 0) (record { seat = seat; waited = false }) picks in
    ap (λ t. made ∷ t) (goes more mades rest (omega (arith, turns, all)))

woven-append : (picks : List Picked) → GoesOn picks
woven-append [] more [] rest all = refl
woven-append [] more (made ∷ mades) rest all = absurd (omega (arith, all))
woven-append (pick ∷ picks) more mades rest all = goes-by pick.seat pick.waited picks (woven-append picks) more mades rest all

-- One pick more

-- its made stands after the others
pub record HasGrown (picks : List Picked) (mades : List Made) (made : Made) (more : List Picked) (later : List Made) : Type 0 where
  pub items : woven more later ≡ woven picks mades ++ made ∷ []
  pub kept : AreOfPicks more later

module _ (picks : List Picked) (mades : List Made) (made : Made) (are : AreOfPicks picks mades) where
  grown : (later : List Made) → woven (picks ++ picked_by made ∷ []) later ≡ woven picks mades ++ made ∷ []
      → length later ≡ length mades + cond (is_waited made.outcome) 0 1 → HasGrown picks mades made (picks ++ picked_by made ∷ []) later
  grown later items long = record {
    items = items;
    kept = record {
      told = ap picks_of items ∙ map-append picked_by (woven picks mades) (made ∷ []) ∙ ap (λ ps. ps ++ picked_by made ∷ []) are.told;
      all = by (is_waited made.outcome) refl;
    };
  }
    where
      by : (waited : Bool) → is_waited made.outcome ≡ waited → turns_of (picks ++ picked_by made ∷ []) ≡ length later
      by waited is =
          let both = sum_by-append (λ (p : Picked). cond (not p.waited) 1 0) picks (picked_by made ∷ []) in
          let was = are.all in
          grind (arith, both, was, long, is)

-- by whether it waited
module _ (picks more : List Picked) (mades : List Made) (made : Made) (waited : Bool) (are : AreOfPicks picks mades) (is : waited ≡ is_waited made.outcome)
    (pushed : more ≡ picks ++ record { seat = made.seat; waited = waited } ∷ []) where
  one-more : picks ++ picked_by made ∷ [] ≡ more
  one-more = ap (λ (w : Bool). picks ++ record { seat = made.seat; waited = w } ∷ []) (sym is) ∙ sym pushed

  pub grown-waited : WaitsPlainly made → waited ≡ true → HasGrown picks mades made more mades
  grown-waited plain waits =
      let told : is_waited made.outcome ≡ true = sym is ∙ waits in
      let one : woven (picked_by made ∷ []) [] ≡ made ∷ [] =
      ap (λ (w : Bool). woven (record { seat = made.seat; waited = w } ∷ []) []) told ∙ ap (λ m. m ∷ []) (sym (plain told)) in
      subst (λ ps. HasGrown picks mades made ps mades) one-more
      (grown picks mades made are mades
      (ap (woven (picks ++ picked_by made ∷ [])) (sym (append-nil mades)) ∙ woven-append picks (picked_by made ∷ []) mades [] are.all
      ∙ ap (λ t. woven picks mades ++ t) one)
      (let none = ap {B = ℕ} (λ (w : Bool). cond w 0 1) told in omega (arith, none)))

  pub grown-did : (later : List Made) → later ≡ mades ++ made ∷ [] → waited ≡ false → HasGrown picks mades made more later
  grown-did later its goes =
      let did : is_waited made.outcome ≡ false = sym is ∙ goes in
      let one : woven (picked_by made ∷ []) (made ∷ []) ≡ made ∷ [] =
      ap (λ (w : Bool). woven (record { seat = made.seat; waited = w } ∷ []) (made ∷ [])) did in
      subst (λ ms. HasGrown picks mades made more ms) (sym its)
      (subst (λ ps. HasGrown picks mades made ps (mades ++ made ∷ [])) one-more
      (grown picks mades made are (mades ++ made ∷ [])
      (woven-append picks (picked_by made ∷ []) mades (made ∷ []) are.all ∙ ap (λ t. woven picks mades ++ t) one)
      (let one_left = ap {B = ℕ} (λ (w : Bool). cond w 0 1) did in
      let long : length (mades ++ made ∷ []) ≡ length mades + 1 = length-append mades (made ∷ []) in omega (arith, one_left, long))))
