-- The next of some locations, and what is lent.
use Rattle.std.proofs.Common.{◌≡◌, ℕ, ◌<◌, ◌≤◌, true, false, List, [], ◌∷◌, ◌++◌, Option, Some, None, is_some, option_copied, refl, sym, arith, map, length, get_or, Bor}
use Rattle.ame_term.specs.declared.types.Loc.{Loc}

module _ where
  tail-is : (x y : ℕ) (xs ys : List ℕ) → x ∷ xs ≡ y ∷ ys → xs ≡ ys
  tail-is x y xs ys e = cc

  pub rest-some : (fresh used : List Loc) (rest : List ℕ) (d : Loc) → map (λ z. z.0) fresh ≡ map (λ z. z.0) used ++ rest → length used < length fresh
      → (more : List ℕ) × (rest ≡ (get_or fresh (length used) d).0 ∷ more)
  rest-some [] used rest d e below = absurd (omega arith)
  rest-some (x ∷ fresh) [] rest d e below = (map (λ z. z.0) fresh, sym e)
  rest-some (x ∷ fresh) (u ∷ used) rest d e below =
      let under : length used < length fresh = omega arith in
      rest-some fresh used rest d (tail-is x.0 u.0 (map (λ z. z.0) fresh) (map (λ z. z.0) used ++ rest) e) under

  pub rest-none : (fresh used : List Loc) (rest : List ℕ) → map (λ z. z.0) fresh ≡ map (λ z. z.0) used ++ rest → length fresh ≤ length used → rest ≡ []
  rest-none [] [] rest e below = sym e
  rest-none [] (u ∷ used) rest e below = absurd (cc)
  rest-none (x ∷ fresh) [] rest e below = absurd (omega arith)
  rest-none (x ∷ fresh) (u ∷ used) rest e below =
      let under : length fresh ≤ length used = omega arith in
      rest-none fresh used rest (tail-is x.0 u.0 (map (λ z. z.0) fresh) (map (λ z. z.0) used ++ rest) e) under

module _ {X : Type 0} where
  pub lent-some : (o : Option (Bor X)) → is_some o ≡ true → (x : X) × (option_copied o ≡ Some x)
  lent-some None e = cc
  lent-some (Some b) e = (b.now, refl)

  pub lent-none : (o : Option (Bor X)) → is_some o ≡ false → option_copied o ≡ None
  lent-none None e = refl
  lent-none (Some b) e = cc
