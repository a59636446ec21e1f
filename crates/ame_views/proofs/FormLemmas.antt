-- The forms that started fragments, one after another.
use Rattle.std.proofs.Common.{◌≡◌, ◌⊎◌, inl, inr, ℕ, zero, suc, ◌+◌, ◌-◌, ◌<◌, ◌==◌, Bool, true, false, List, [], ◌∷◌, ◌++◌, length, map, take, get_or}
use Rattle.std.proofs.Common.{Option, Some, None, if◌then◌else◌, refl, sym, ap, ◌∙◌, subst, arith}
use Rattle.std.specs.Prelude.{slice_get}
use Rattle.std.proofs.lemmas.Bool.{eqb-false}
use Rattle.std.proofs.lemmas.List.{map-append, take_more}
use Rattle.ame_why.specs.declared.position.Position.{Position}
use Rattle.ame_views.specs.declared.starters.Starter.{Starter}
use Rattle.ame_views.specs.Starters.{starter_in}

-- an element of a longer list was there before, or is the last
at-or-last : {A : Type 0} (xs : List A) (x : A) (k : ℕ) (y : A) → slice_get (xs ++ x ∷ []) k ≡ Some y → (slice_get xs k ≡ Some y) ⊎ ((k ≡ length xs) × (x ≡ y))
at-or-last [] x zero y e = inr (refl, cc)
at-or-last [] x (suc k) y e = absurd cc
at-or-last (z ∷ xs) x zero y e = inl e
at-or-last (z ∷ xs) x (suc k) y e = by (at-or-last xs x k y e)
  where
    by : (slice_get xs k ≡ Some y) ⊎ ((k ≡ length xs) × (x ≡ y)) → (slice_get (z ∷ xs) (suc k) ≡ Some y) ⊎ ((suc k ≡ length (z ∷ xs)) × (x ≡ y))
    by (inl found) = inl found
    by (inr (place, same)) = inr (ap suc place, same)

-- the entries so far, with one more
pub entries-more : (told : List ℕ) (starters new : List Starter) (s : Starter) (i : ℕ) → i < length told → map (λ t. t.entry) starters ≡ take i told
    → new ≡ starters ++ s ∷ [] → s.entry ≡ get_or told i 0 → map (λ t. t.entry) new ≡ take (i + 1) told
entries-more told starters new s i below so_far added is =
    ap (λ (ss : List Starter). map (λ (t : Starter). t.entry) ss) added ∙ map-append (λ (t : Starter). t.entry) starters (s ∷ [])
    ∙ ap (λ (es : List ℕ). es ++ s.entry ∷ []) so_far ∙ ap (λ (n : ℕ). take i told ++ n ∷ []) is ∙ sym (take_more told i 0 below)

module _ (P : ℕ → Option Position → Type 0) where
  -- the same for all noted forms, from task 1 on
  abbrev pub AreForms : List Starter → Type 0
  AreForms starters = (k : ℕ) (s : Starter) → slice_get starters k ≡ Some s → P (k + 1) s.form

  pub forms-begin : (starters : List Starter) → starters ≡ [] → AreForms starters
  forms-begin starters none k s found =
      let nothing : None ≡ Some s = ap (λ (ss : List Starter). slice_get ss k) (sym none) ∙ found in absurd cc

  pub forms-more : (starters new : List Starter) (s : Starter) (i : ℕ) → length starters ≡ i → new ≡ starters ++ s ∷ [] → AreForms starters
      → P (i + 1) s.form → AreForms new
  forms-more starters new s i long added so_far starts k other found =
      by (at-or-last starters s k other (ap (λ (ss : List Starter). slice_get ss k) (sym added) ∙ found))
    where
      by : (slice_get starters k ≡ Some other) ⊎ ((k ≡ length starters) × (s ≡ other)) → P (k + 1) other.form
      by (inl old) = so_far k other old
      by (inr (place, same)) =
          subst (λ (t : Starter). P (k + 1) t.form) same
          (subst (λ (n : ℕ). P (n + 1) s.form) (sym (place ∙ long)) starts)

  told-at : (starters : List Starter) (fragment : ℕ) (s : Starter) → AreForms starters → (is_program : Bool) → (fragment == 0) ≡ is_program
      → (if is_program then None else slice_get starters (fragment - 1)) ≡ Some s → P fragment s.form
  told-at starters fragment s forms true e found = absurd cc
  told-at starters fragment s forms false e found =
      let some : fragment ≡ 0 → ⊥ = eqb-false fragment 0 e in
      let same : fragment - 1 + 1 ≡ fragment = omega (arith, some) in
      subst (λ (n : ℕ). P n s.form) same (forms (fragment - 1) s found)

  -- the same by their numbers
  pub forms-told : (starters : List Starter) → AreForms starters → (fragment : ℕ) (s : Starter) → starter_in starters fragment ≡ Some s
      → P fragment s.form
  forms-told starters forms fragment s found = told-at starters fragment s forms (fragment == 0) refl found
