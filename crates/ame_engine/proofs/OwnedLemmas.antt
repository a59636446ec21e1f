-- The locations that a seat owns are those that its undo log names.
use Rattle.std.proofs.Common.{◌≡◌, ℕ, zero, suc, ◌+◌, ◌<◌, ◌==◌, ◌⊎◌, inl, inr, Bool, true, false, cond, List, [], ◌∷◌, get_or, length, Contains, Option, Some, None, refl, sym, ap, ◌∙◌, subst, arith, eq-eqb}
use Rattle.std.specs.Prelude.{slice_get, filter}
use Rattle.std.specs.List.{AllPairs, range_with_len}
use Rattle.std.specs.List.Sorted.{IsPermutation, IsStrictlyIncreasing}
use Rattle.std.specs.Option.{option_map_or}
use Rattle.std.proofs.lemmas.Bool.{eqb-true}
use Rattle.std.proofs.lemmas.Option.{slice_get_within}
use Rattle.std.proofs.lemmas.List.Elements.{All-contains, filter_passes}
use Rattle.std.proofs.lemmas.List.FromFn.{length-range_with_len, get_or-range_with_len}
use Rattle.std.proofs.lemmas.List.Kept.{AllPairs-from_increasing, IsStrictlyIncreasing-filter}
use Rattle.std.proofs.lemmas.List.Sorted.{Contains-permutation, IsPermutation-sym}
use Rattle.ame_store.specs.declared.cell.Cell.{Cell}
use Rattle.ame_rows.specs.declared.notes.Undo.{Undo}
use Rattle.ame_rows.specs.Access.{is_owned_by}
use Rattle.ame_rows.specs.Entries.{named_by, places, entry_at, OwnsAsLogged, IsLogOf}
use Rattle.ame_rows.proofs.LogLemmas.{entry_owned, has_entry}
use Rattle.ame_rows.proofs.LettingGoLemmas.{owned_is, is_owned}
use Rattle.ame_engine.specs.Committing.{owned_places}

-- Rising numbers

abbrev Rising : List ℕ → Type 0
Rising xs = AllPairs (λ x y. x < y) xs

contains-later : {X : Type 0} (x y : X) (xs : List X) → Contains xs y → Contains (x ∷ xs) y
contains-later x y xs c = (suc c.0, (let h = c.1 in omega arith), c.2)

contains-first : {X : Type 0} (x : X) (xs : List X) → Contains (x ∷ xs) x
contains-first x xs = (0, omega arith, refl)

contains-split : {X : Type 0} (x y : X) (xs : List X) → Contains (x ∷ xs) y → (x ≡ y) ⊎ Contains xs y
contains-split {X} x y xs c = by c.0 c.1 c.2
  where
    by : (k : ℕ) → k < length (x ∷ xs) → get_or (x ∷ xs) k y ≡ y → (x ≡ y) ⊎ Contains xs y
    by zero below e = inl e
    by (suc k) below e = inr (k, omega arith, e)

contains-none : {X : Type 0} (y : X) → Contains [] y → ⊥
contains-none y c = let h : c.0 < 0 = c.1 in absurd (omega arith)

rising-tail : (x : ℕ) (xs : List ℕ) → Rising (x ∷ xs) → Rising xs
rising-tail x xs rising i j d below within = rising (suc i) (suc j) d (omega arith) (omega arith)

rising-above : (x y : ℕ) (xs : List ℕ) → Rising (x ∷ xs) → Contains xs y → x < y
rising-above x y xs rising c =
    let below = c.1 in let h : x < get_or xs c.0 y = rising 0 (suc c.0) y (omega arith) (omega arith) in subst (λ (z : ℕ). x < z) c.2 h

-- rising lists that have the same numbers are the same
same-rising : (xs ys : List ℕ) → Rising xs → Rising ys → ((z : ℕ) → Contains xs z → Contains ys z) → ((z : ℕ) → Contains ys z → Contains xs z) → xs ≡ ys
same-rising [] [] p q to from = refl
same-rising [] (y ∷ ys) p q to from = absurd (contains-none y (from y (contains-first y ys)))
same-rising (x ∷ xs) [] p q to from = absurd (contains-none x (to x (contains-first x xs)))
same-rising (x ∷ xs) (y ∷ ys) p q to from =
    ap (λ (z : ℕ). z ∷ xs) heads
    ∙ ap (λ (zs : List ℕ). y ∷ zs)
    (same-rising xs ys (rising-tail x xs p) (rising-tail y ys q)
    (λ z c. ahead y z ys (let h = rising-above x z xs p c in omega (arith, heads)) (to z (contains-later x z xs c)))
    (λ z c. ahead x z xs (let h = rising-above y z ys q c in omega (arith, heads)) (from z (contains-later y z ys c))))
  where
    both : (y ≡ x) ⊎ Contains ys x → (x ≡ y) ⊎ Contains xs y → x ≡ y
    both (inl e) other = sym e
    both (inr c) (inl e) = e
    both (inr c) (inr d) = let a = rising-above y x ys q c in let b = rising-above x y xs p d in absurd (omega arith)

    heads : x ≡ y
    heads = both (contains-split y x ys (to x (contains-first x xs))) (contains-split x y xs (from y (contains-first y ys)))

    ahead : (w z : ℕ) (ws : List ℕ) → w < z → Contains (w ∷ ws) z → Contains ws z
    ahead w z ws above c = by (contains-split w z ws c)
      where
        by : (w ≡ z) ⊎ Contains ws z → Contains ws z
        by (inl e) = absurd (omega arith)
        by (inr d) = d

filter-step : {X : Type 0} (p : X → Bool) (x y : X) (ys : List X) → p x ≡ true → (Contains ys x → Contains (filter p ys) x) → Contains (y ∷ ys) x
    → Contains (filter p (y ∷ ys)) x
filter-step {X} p x y ys passes rest c = by (p y) refl
  where
    later : (y ≡ x) ⊎ Contains ys x → p y ≡ false → Contains (filter p ys) x
    later (inl e) fails = absurd (let clash : true ≡ false = sym passes ∙ sym (ap p e) ∙ fails in cc)
    later (inr d) fails = rest d

    among : (y ≡ x) ⊎ Contains ys x → Contains (y ∷ filter p ys) x
    among (inl e) = (0, omega arith, e)
    among (inr d) = contains-later y x (filter p ys) (rest d)

    by : (b : Bool) → p y ≡ b → Contains (cond b (y ∷ filter p ys) (filter p ys)) x
    by true e = among (contains-split y x ys c)
    by false e = later (contains-split y x ys c) e

contains-filter : {X : Type 0} (p : X → Bool) (x : X) (xs : List X) → p x ≡ true → Contains xs x → Contains (filter p xs) x
contains-filter p x [] passes c = absurd (contains-none x c)
contains-filter p x (y ∷ ys) passes c = filter-step p x y ys passes (contains-filter p x ys passes) c

range-rising : (n : ℕ) → IsStrictlyIncreasing (range_with_len 0 n)
range-rising n k below =
    let len = length-range_with_len 0 n in
    let a = get_or-range_with_len 0 n k 0 (omega arith) in let b = get_or-range_with_len 0 n (k + 1) 0 (omega arith) in omega (arith, a, b)

range-contains : (n l : ℕ) → l < n → Contains (range_with_len 0 n) l
range-contains n l below = (l, (let len = length-range_with_len 0 n in omega arith), get_or-range_with_len 0 n l l below ∙ omega arith)

-- Entries

module _ {V : Type 0} where
  abbrev HasEntry : List (Undo V) → ℕ → Type 0
  HasEntry undos l = (w : Undo V) × (entry_at undos l ≡ Some w)

  names-step : (u : Undo V) (us : List (Undo V)) (l : ℕ) → (Contains (places us) l → HasEntry us l) → Contains (places (u ∷ us)) l → HasEntry (u ∷ us) l
  names-step u us l rest c = by (named_by u == l) refl
    where
      later : (named_by u ≡ l) ⊎ Contains (places us) l → (named_by u == l) ≡ false → HasEntry us l
      later (inl e) fails = absurd (let clash : true ≡ false = sym (eq-eqb (named_by u) l e) ∙ fails in cc)
      later (inr d) fails = rest d

      by : (b : Bool) → (named_by u == l) ≡ b → (w : Undo V) × (cond b (Some u) (entry_at us l) ≡ Some w)
      by true e = (u, refl)
      by false e = later (contains-split (named_by u) l (places us) c) e

  names : (undos : List (Undo V)) (l : ℕ) → Contains (places undos) l → HasEntry undos l
  names [] l c = absurd (contains-none l c)
  names (u ∷ us) l c = names-step u us l (names us l) c

  named-step : (u : Undo V) (us : List (Undo V)) (l : ℕ) (w : Undo V) → (entry_at us l ≡ Some w → Contains (places us) l) → entry_at (u ∷ us) l ≡ Some w
      → Contains (places (u ∷ us)) l
  named-step u us l w rest e = by (named_by u == l) refl e
    where
      by : (b : Bool) → (named_by u == l) ≡ b → cond b (Some u) (entry_at us l) ≡ Some w → Contains (named_by u ∷ places us) l
      by true is f = (0, omega arith, eqb-true (named_by u) l is)
      by false is f = contains-later (named_by u) l (places us) (rest f)

  named : (undos : List (Undo V)) (l : ℕ) (w : Undo V) → entry_at undos l ≡ Some w → Contains (places undos) l
  named [] l w e = absurd (let clash : ◌≡◌ {A = Option (Undo V)} None (Some w) = e in cc)
  named (u ∷ us) l w e = named-step u us l w (named us l w) e

  module _ (seat : ℕ) (cells : List (Cell V)) where
    abbrev owns : ℕ → Bool
    owns l = option_map_or (is_owned_by seat) (slice_get cells l) false

    owned-there : (l : ℕ) (u : Undo V) (o : Option (Cell V)) → slice_get cells l ≡ o → OwnsAsLogged seat o (Some u) → (l < length cells) × (option_map_or (is_owned_by seat) o false ≡ true)
    owned-there l u None is h = absurd h
    owned-there l u (Some cell) is h = (slice_get_within cells l cell is, owned_is seat cell (entry_owned seat u cell h))

    entry-there : (e : Option (Undo V)) (o : Option (Cell V)) → OwnsAsLogged seat o e → option_map_or (is_owned_by seat) o false ≡ true → (u : Undo V) × (e ≡ Some u)
    entry-there e None h owned = absurd (let clash : false ≡ true = owned in cc)
    entry-there e (Some cell) h owned = let x = has_entry seat cell e (is_owned seat cell owned) h in (x.0, x.1)

    module _ (undos : List (Undo V)) (log : IsLogOf seat cells undos) where
      pub owned-named : (l : ℕ) → Contains (places undos) l → Contains (owned_places seat cells) l
      owned-named l c =
          let u = names undos l c in
          let there = owned-there l u.0 (slice_get cells l) refl (subst (OwnsAsLogged seat (slice_get cells l)) u.1 (log.owned l)) in
          contains-filter owns l (range_with_len 0 (length cells)) there.1 (range-contains (length cells) l there.0)

      module _ (ls : List ℕ) (same : IsPermutation (places undos) ls) (rising : IsStrictlyIncreasing ls) where
        to : (l : ℕ) → Contains ls l → Contains (owned_places seat cells) l
        to l c = owned-named l (Contains-permutation ls (places undos) l (IsPermutation-sym (places undos) ls same) c)

        from : (l : ℕ) → Contains (owned_places seat cells) l → Contains ls l
        from l c =
            let passes : owns l ≡ true = All-contains (λ k. owns k ≡ true) (owned_places seat cells) l (filter_passes owns (range_with_len 0 (length cells))) c in
            let u = entry-there (entry_at undos l) (slice_get cells l) (log.owned l) passes in
            Contains-permutation (places undos) ls l same (named undos l u.0 u.1)

        pub owned-are : ls ≡ owned_places seat cells
        owned-are =
            same-rising ls (owned_places seat cells) (AllPairs-from_increasing ls rising)
            (AllPairs-from_increasing (owned_places seat cells) (IsStrictlyIncreasing-filter owns (range_with_len 0 (length cells)) (range-rising (length cells)))) to from
