-- Reading by place: a list after a write or a push, cells after a change at one location, rows after one became another.
use Rattle.std.proofs.Common.{◌≡◌, ◌≢◌, ℕ, zero, suc, ◌<◌, ◌≤◌, List, [], ◌∷◌, ◌++◌, length, set, map, get_or, All, Some, None, slice_get, sym, refl, ap}
use Rattle.std.proofs.Common.{subst, ◌∙◌, arith, length-set}
use Rattle.std.specs.Prelude.{unwrap_or}
use Rattle.std.specs.Option.{option_map_or}
use Rattle.std.proofs.lemmas.Option.{slice_get-get_or, get_or_from_slice_get, slice_get_past}
use Rattle.ame_store.specs.declared.cell.Cell.{Cell}
use Rattle.ame_rows.specs.MemoryView.{Log, no_log, row_at}
use Rattle.ame_rows.specs.Access.{changed_at}

module _ {A : Type 0} where
  pub get_set_here : (l : List A) (i : ℕ) (a : A) → i < length l → slice_get (set l i a) i ≡ Some a
  get_set_here [] i a h = absurd (omega arith)
  get_set_here (x ∷ xs) zero a h = refl
  get_set_here (x ∷ xs) (suc i) a h = get_set_here xs i a (omega arith)

  pub get_set_else : (l : List A) (i j : ℕ) (a : A) → j ≢ i → slice_get (set l i a) j ≡ slice_get l j
  get_set_else [] i j a n = refl
  get_set_else (x ∷ xs) zero zero a n = absurd (n refl)
  get_set_else (x ∷ xs) zero (suc j) a n = refl
  get_set_else (x ∷ xs) (suc i) zero a n = refl
  get_set_else (x ∷ xs) (suc i) (suc j) a n = get_set_else xs i j a (λ e. n (ap suc e))

  pub get_push_here : (l : List A) (a : A) → slice_get (l ++ a ∷ []) (length l) ≡ Some a
  get_push_here [] a = refl
  get_push_here (x ∷ xs) a = get_push_here xs a

  pub get_push_else : (l : List A) (a : A) (j : ℕ) → j ≢ length l → slice_get (l ++ a ∷ []) j ≡ slice_get l j
  get_push_else [] a zero n = absurd (n refl)
  get_push_else [] a (suc j) n = refl
  get_push_else (x ∷ xs) a zero n = refl
  get_push_else (x ∷ xs) a (suc j) n = get_push_else xs a j (λ e. n (ap suc e))

  pub get_there : (l : List A) (i : ℕ) → i < length l → (a : A) × (slice_get l i ≡ Some a)
  get_there [] i h = absurd (omega arith)
  get_there (x ∷ xs) zero h = (x, refl)
  get_there (x ∷ xs) (suc i) h = get_there xs i (omega arith)

  pub set_again : (l : List A) (i : ℕ) (a : A) → slice_get l i ≡ Some a → set l i a ≡ l
  set_again [] i a e = refl
  set_again (x ∷ xs) zero a e = let same : x ≡ a = cc in ap (λ y. y ∷ xs) (sym same)
  set_again (x ∷ xs) (suc i) a e = ap (λ ys. x ∷ ys) (set_again xs i a e)

  -- a write that a function doesn't see
  pub map_set_same : {B : Type 0} (f : A → B) (l : List A) (i : ℕ) (a b : A) → slice_get l i ≡ Some a → f b ≡ f a → map f (set l i b) ≡ map f l
  map_set_same f [] i a b e s = refl
  map_set_same f (x ∷ xs) zero a b e s = let same : x ≡ a = cc in ap (λ y. y ∷ map f xs) (s ∙ ap f (sym same))
  map_set_same f (x ∷ xs) (suc i) a b e s = ap (λ ys. f x ∷ ys) (map_set_same f xs i a b e s)

  pub map_same : (f : A → A) (l : List A) → ((i : ℕ) (a : A) → slice_get l i ≡ Some a → f a ≡ a) → map f l ≡ l
  map_same f [] h = refl
  map_same f (x ∷ xs) h = ap (λ y. y ∷ map f xs) (h 0 x refl) ∙ ap (λ ys. x ∷ ys) (map_same f xs (λ i a e. h (suc i) a e))

  pub all_at : (P : A → Type 0) (l : List A) (i : ℕ) (a : A) → i < length l → slice_get l i ≡ Some a → All P l → P a
  all_at P l i a h e all = subst P (get_or_from_slice_get l i a a e) (all i a h)

  pub all_from : (P : A → Type 0) (l : List A) → ((i : ℕ) (a : A) → slice_get l i ≡ Some a → P a) → All P l
  all_from P l each = λ k d h. each k (get_or l k d) (slice_get-get_or l k d h)

module _ {V : Type 0} where
  -- ---- one row became another
  pub row_set_here : (rows : List (Log V)) (k : ℕ) (notes : Log V) → k < length rows → row_at (set rows k notes) k ≡ notes
  row_set_here rows k notes h = ap (λ o. unwrap_or o no_log) (get_set_here rows k notes h)

  pub row_set_else : (rows : List (Log V)) (k j : ℕ) (notes : Log V) → j ≢ k → row_at (set rows k notes) j ≡ row_at rows j
  row_set_else rows k j notes n = ap (λ o. unwrap_or o no_log) (get_set_else rows k j notes n)

  pub row_beyond : (rows : List (Log V)) (k : ℕ) → length rows ≤ k → row_at rows k ≡ no_log
  row_beyond rows k h = ap (λ o. unwrap_or o no_log) (slice_get_past rows k h)

  pub row_set_again : (rows : List (Log V)) (k : ℕ) → k < length rows → set rows k (row_at rows k) ≡ rows
  row_set_again rows k h =
      let there = get_there rows k h in
      set_again rows k (row_at rows k) (there.1 ∙ ap Some (sym (ap (λ o. unwrap_or o no_log) there.1)))

  -- ---- one cell became another
  module _ (l : ℕ) (f : Cell V → Cell V) (cells : List (Cell V)) where
    pub changed_is : (cell : Cell V) → slice_get cells l ≡ Some cell → changed_at l f cells ≡ set cells l (f cell)
    changed_is cell at = ap (λ o. option_map_or (λ c. set cells l (f c)) o cells) at

    pub changed_here : (cell : Cell V) → l < length cells → slice_get cells l ≡ Some cell → slice_get (changed_at l f cells) l ≡ Some (f cell)
    changed_here cell h at = ap (λ cs. slice_get cs l) (changed_is cell at) ∙ get_set_here cells l (f cell) h

    pub changed_else : (j : ℕ) → j ≢ l → slice_get (changed_at l f cells) j ≡ slice_get cells j
    changed_else j n =
        elim (slice_get cells l) as (λ o. slice_get (option_map_or (λ c. set cells l (f c)) o cells) j ≡ slice_get cells j) [
          | None ↦ refl
          | Some cell ↦ get_set_else cells l j (f cell) n
        ]

    pub changed_length : length (changed_at l f cells) ≡ length cells
    changed_length =
        elim (slice_get cells l) as (λ o. length (option_map_or (λ c. set cells l (f c)) o cells) ≡ length cells) [
          | None ↦ refl
          | Some cell ↦ length-set cells l (f cell)
        ]
