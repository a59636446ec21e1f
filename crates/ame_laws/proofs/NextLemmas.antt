-- The next item of a list from a place on.
use Rattle.std.proofs.Common.{◌≡◌, ℕ, ◌+◌, ◌<◌, ◌++◌, List, [], ◌∷◌, Some, length, get_or, drop, refl, sym, ap, subst, ◌∙◌, zero, suc, arith, append_assoc, append-nil, length-append}
use Rattle.std.specs.Prelude.{slice_get}
use Rattle.std.proofs.lemmas.List.{drop-drop, drop_at}
use Rattle.std.proofs.lemmas.Option.{get_or_from_slice_get, slice_get_within}
use Rattle.ame_laws.specs.Next.{ComeNext}

module _ {A : Type 0} where
  -- a list comes next from its start on
  pub whole_next : (all : List A) → ComeNext all 0 all
  whole_next all = ([], sym (append-nil all))

  pub front_next : (all : List A) (k : ℕ) (few later : List A) → ComeNext all k (few ++ later) → ComeNext all k few
  front_next all k few later c = (later ++ c.0, c.1 ∙ append_assoc few later c.0)

  pub behind_next : (all : List A) (k n : ℕ) (few later : List A) → length few ≡ n → ComeNext all k (few ++ later) → ComeNext all (k + n) later
  behind_next all k n few later long c = (
    c.0,
    sym (drop-drop n k all) ∙ ap (drop n) (c.1 ∙ append_assoc few later c.0) ∙ drop_at few (later ++ c.0) n long,
  )

  pub third_next : (all : List A) (k n m : ℕ) (one two later : List A) → length one ≡ n → length two ≡ m → ComeNext all k (one ++ two ++ later)
      → ComeNext all (k + n + m) later
  third_next all k n m one two later first second c =
      let far : k + (n + m) ≡ k + n + m = omega arith in
      subst (λ (i : ℕ). ComeNext all i later) far
      (behind_next all k (n + m) (one ++ two) later (omega (arith, length-append one two, first, second)) c)

  at_place : (all : List A) (k : ℕ) (x : A) (others : List A) → drop k all ≡ x ∷ others → slice_get all k ≡ Some x
  at_place [] zero x others is = cc
  at_place [] (suc k) x others is = cc
  at_place (y ∷ ys) zero x others is = cc
  at_place (y ∷ ys) (suc k) x others is = at_place ys k x others is

  -- the first of what comes next stands at the place
  pub first_stands : (all : List A) (k : ℕ) (x : A) (later : List A) → ComeNext all k (x ∷ later) → slice_get all k ≡ Some x
  first_stands all k x later c = at_place all k x (later ++ c.0) c.1

  pub first_below : (all : List A) (k : ℕ) (x : A) (later : List A) → ComeNext all k (x ∷ later) → k < length all
  first_below all k x later c = slice_get_within all k x (first_stands all k x later c)

  pub first_is : (all : List A) (k : ℕ) (x other : A) (later : List A) → ComeNext all k (x ∷ later) → get_or all k other ≡ x
  first_is all k x other later c = get_or_from_slice_get all k x other (first_stands all k x later c)

  pub rest_next : (all : List A) (k : ℕ) (x : A) (later : List A) → ComeNext all k (x ∷ later) → ComeNext all (k + 1) later
  rest_next all k x later c = behind_next all k 1 (x ∷ []) later refl c
