-- Reading lists by place, after a write and after an append.
use Rattle.std.proofs.Common.{◌≡◌, ◌≢◌, ◌⊎◌, ℕ, zero, suc, ◌<◌, List, [], ◌∷◌, ◌++◌, length, set, replicate, Some, slice_get, sym, refl, ap, ◌∙◌, inl, inr, ⊎_elim, subst, arith, append_assoc}
use mathlib.Core.Option.{some, some-injective, some-ne-none}
use mathlib.Core.List.{IsPrefix}
use lib.ListN.{get_elem?}
use Rattle.crossbeam_queue.proofs.Lists.{at_set}

module _ {A : Type 0} where
  pub get_set_here : (l : List A) (i : ℕ) (a : A) → i < length l → slice_get (set l i a) i ≡ Some a
  get_set_here [] i a h = absurd (omega arith)
  get_set_here (x ∷ xs) zero a h = refl
  get_set_here (x ∷ xs) (suc i) a h = get_set_here xs i a (omega arith)

  pub get_set_else : (l : List A) (i j : ℕ) (a : A) → j ≢ i → slice_get (set l i a) j ≡ slice_get l j
  get_set_else [] i j a n = refl
  get_set_else (x ∷ xs) zero zero a n = absurd (n refl)
  get_set_else (x ∷ xs) zero (suc j) a n = refl
  get_set_else (x ∷ xs) (suc i) zero a n = refl
  get_set_else (x ∷ xs) (suc i) (suc j) a n = get_set_else xs i j a (λ e. n (ap suc e))

  pub get_within : (l : List A) (i : ℕ) (a : A) → slice_get l i ≡ Some a → i < length l
  get_within [] i a e = cc
  get_within (x ∷ xs) zero a e = omega arith
  get_within (x ∷ xs) (suc i) a e = let r = get_within xs i a e in omega arith

  pub get_there : (l : List A) (i : ℕ) → i < length l → (a : A) × (slice_get l i ≡ Some a)
  get_there [] i h = absurd (omega arith)
  get_there (x ∷ xs) zero h = (x, refl)
  get_there (x ∷ xs) (suc i) h = get_there xs i (omega arith)

  pub get_snoc : (l : List A) (a b : A) (i : ℕ) → slice_get (l ++ a ∷ []) i ≡ Some b → (slice_get l i ≡ Some b) ⊎ ((i ≡ length l) × (a ≡ b))
  get_snoc [] a b zero e = inr (refl, cc)
  get_snoc [] a b (suc i) e = cc
  get_snoc (x ∷ xs) a b zero e = inl e
  get_snoc (x ∷ xs) a b (suc i) e = ⊎_elim (λ h. inl h) (λ h. inr (ap suc h.0, h.1)) (get_snoc xs a b i e)

  pub get_replicate : (n : ℕ) (a b : A) (i : ℕ) → slice_get (replicate n a) i ≡ Some b → b ≡ a
  get_replicate zero a b i e = cc
  get_replicate (suc n) a b zero e = cc
  get_replicate (suc n) a b (suc i) e = get_replicate n a b i e

  pub get_replicate_in : (n : ℕ) (a : A) (i : ℕ) → i < n → slice_get (replicate n a) i ≡ Some a
  get_replicate_in zero a i h = absurd (omega arith)
  get_replicate_in (suc n) a zero h = refl
  get_replicate_in (suc n) a (suc i) h = get_replicate_in n a i (omega arith)

  pub at_within : (l : List A) (i : ℕ) (a : A) → get_elem? l i ≡ some a → i < length l
  at_within [] i a e = absurd (some-ne-none a (sym e))
  at_within (x ∷ xs) zero a e = omega arith
  at_within (x ∷ xs) (suc i) a e = let r = at_within xs i a e in omega arith

  pub at_end : (l : List A) (a b : A) (i : ℕ) → get_elem? (l ++ a ∷ []) i ≡ some b → (get_elem? l i ≡ some b) ⊎ ((i ≡ length l) × (a ≡ b))
  at_end [] a b zero e = inr (refl, some-injective a b e)
  at_end [] a b (suc i) e = absurd (some-ne-none b (sym e))
  at_end (x ∷ xs) a b zero e = inl e
  at_end (x ∷ xs) a b (suc i) e = ⊎_elim (λ h. inl h) (λ h. inr (ap suc h.0, h.1)) (at_end xs a b i e)

  -- what is so of each place, after a write at one place
  pub all_set : (P : ℕ → A → Type 0) (l : List A) (i : ℕ) (a : A) → P i a → ((j : ℕ) (b : A) → j ≢ i → get_elem? l j ≡ some b → P j b) → (j : ℕ) (b : A) → get_elem? (set l i a) j ≡ some b → P j b
  all_set P l i a mine others j b e = ⊎_elim (λ (x : (j ≡ i) × (a ≡ b)). subst (λ (y : ℕ × A). P y.0 y.1) (λ k. (sym x.0 k, x.1 k)) mine)
      (λ (x : (j ≢ i) × (get_elem? l j ≡ some b)). others j b x.0 x.1) (at_set l i j a b e)

  -- the same after an append
  pub all_snoc : (P : ℕ → A → Type 0) (l : List A) (a : A) → P (length l) a → ((j : ℕ) (b : A) → get_elem? l j ≡ some b → P j b) → (j : ℕ) (b : A) → get_elem? (l ++ a ∷ []) j ≡ some b → P j b
  all_snoc P l a mine others j b e = ⊎_elim (λ (x : get_elem? l j ≡ some b). others j b x)
      (λ (x : (j ≡ length l) × (a ≡ b)). subst (λ (y : ℕ × A). P y.0 y.1) (λ k. (sym x.0 k, x.1 k)) mine) (at_end l a b j e)

  pub prefix_self : (xs : List A) → IsPrefix xs xs
  prefix_self [] = ([], refl)
  prefix_self (x ∷ xs) = let r = prefix_self xs in (r.0, ap (λ ys. x ∷ ys) r.1)

  pub prefix_more : (xs ys zs : List A) → IsPrefix xs ys → IsPrefix xs (ys ++ zs)
  prefix_more xs ys zs p = (p.0 ++ zs, sym (append_assoc xs p.0 zs) ∙ ap (λ w. w ++ zs) p.1)
