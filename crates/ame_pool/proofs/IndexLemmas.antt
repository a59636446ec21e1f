-- The index of watchers.
use Rattle.std.proofs.lemmas.Bool.{eqb-true, or_right}
use Rattle.std.proofs.Common.{◌≡◌, ◌≢◌, ◌≤◌, ◌==◌, ◌&&◌, ℕ, Bool, true, false, cond, not, ◌<◌, ◌+◌, Result, Ok, Err, OnErr, sym, ap, refl, [], ◌∷◌, ◌∙◌, arith}
use Rattle.std.specs.Prelude.{List, length}
use lib.ListN.{get_or}
use Rattle.std.specs.BTreeSet.{contains, btree_set_len}
use Rattle.std.specs.BTreeMap.{is_at}
use Rattle.std.specs.BTreeMap.Range.{IsLeBy}
use Rattle.ame_pool.proofs.Words.{cases_Bool, Loc, pair_cmp, lists, among, IsBetween, IsListedAfter, ◌||◌, take, drop, take-append-drop, list_any, list_any_more, list_any-append, nat_tests, BTreeSet}

none_passes : {X : Type 0} (p : X → Bool) (xs : List X) → length xs ≡ 0 → list_any p xs ≡ false
none_passes p [] none = refl
none_passes p (x ∷ xs) none = cc

pub on_err : {T E : Type 0} (r : Result T E) (P : Type 0) → P → OnErr r P
on_err (Ok x) P h = tt
on_err (Err e) P h = h

-- pairs of one location come in order of their numbers
pub pair_low : (l m : ℕ) → IsLeBy pair_cmp (l, 0) (l, m)
pair_low l m = grind (arith, nat_tests)

pub pair_le : (k n l m : ℕ) → k ≡ l → IsLeBy pair_cmp (k, n) (l, m) → n ≤ m
pair_le k n l m e h = grind (arith, nat_tests, e, h)

pub pair_le_at : (k n l m : ℕ) → IsLeBy pair_cmp (l, 0) (k, n) → IsLeBy pair_cmp (k, n) (l, m) → k ≡ l
pair_le_at k n l m low h = grind (arith, nat_tests, low, h)

-- ---- one pair
pair_here : (l n k : ℕ) → is_at (pair_cmp (l, n)) (k, n) ≡ (l == k)
pair_here l n k = grind (arith, nat_tests)

pair_other : (l n k m : ℕ) → m ≢ n → is_at (pair_cmp (l, n)) (k, m) ≡ false
pair_other l n k m other = grind (arith, nat_tests, other)

pub paired : (l n : ℕ) (value : Bool) (old new : BTreeSet (ℕ × ℕ))
    → ((p : ℕ × ℕ) → contains pair_cmp new p ≡ cond (is_at (pair_cmp (l, n)) p) value (contains pair_cmp old p))
    → IsListedAfter n (λ k. cond (l == k) value (lists old k n)) old new
paired l n value old new step = record {
  here = λ k. step (k, n) ∙ ap (λ b. cond b value (lists old k n)) (pair_here l n k);
  others = λ k m other. step (k, m) ∙ ap (λ b. cond b value (lists old k m)) (pair_other l n k m other);
}

-- an index without pairs names no member
pub names_nobody : (index : BTreeSet (ℕ × ℕ)) → btree_set_len index ≡ 0 → (k n : ℕ) → lists index k n ≡ false
names_nobody index none k n = none_passes (is_at (pair_cmp (k, n))) index.keys none

-- ---- tables of truth values: a is listed so far, x is the next location, k is kept, l was listed
add_table : (a x l : Bool) → cond x true (a || l) ≡ ((a || x) || l)
add_table a x l = grind (arith, cases_Bool a, cases_Bool x)

then_table : (a x k l : Bool) → (x ≡ true → k ≡ false) → cond x false (not (a && not k) && l) ≡ (not ((a || x) && not k) && l)
then_table a x k l h = grind (arith, h, cases_Bool a, cases_Bool x, cases_Bool k)

else_table : (a x k l : Bool) → (x ≡ true → k ≡ true) → (not (a && not k) && l) ≡ (not ((a || x) && not k) && l)
else_table a x k l h = grind (arith, h, cases_Bool a, cases_Bool x, cases_Bool k)

among_none : (k i : ℕ) (xs : List Loc) → among k xs ≡ false → among k (take i xs) ≡ false
among_none k i xs h =
    let e : among k xs ≡ (among k (take i xs) || among k (drop i xs)) = ap (among k) (sym (take-append-drop i xs)) ∙ list_any-append (λ l. l.0 == k) (take i xs) (drop i xs) in
    grind (arith, e, h, cases_Bool (among k (take i xs)))

-- ---- one change after another
pub listed_as : {n : ℕ} {p q : ℕ → Bool} {old new : BTreeSet (ℕ × ℕ)} → IsListedAfter n p old new → ((k : ℕ) → p k ≡ q k) → IsListedAfter n q old new
listed_as h same = record { here = λ k. h.here k ∙ same k; others = h.others }

pub listed_then : {n : ℕ} {p q : ℕ → Bool} {old mid new : BTreeSet (ℕ × ℕ)} → IsListedAfter n p old mid → IsListedAfter n q mid new → IsListedAfter n q old new
listed_then first then = record { here = then.here; others = λ k m other. then.others k m other ∙ first.others k m other }

module _ (number : ℕ) (old : BTreeSet (ℕ × ℕ)) where
  -- the first i of these locations are watched too
  abbrev pub HasAdded : List Loc → ℕ → BTreeSet (ℕ × ℕ) → Type 0
  HasAdded locs i new = IsListedAfter number (λ k. among k (take i locs) || lists old k number) old new

  -- the first i of these locations are no longer watched, but for those that are kept
  abbrev pub HasDropped : List Loc → List Loc → ℕ → BTreeSet (ℕ × ℕ) → Type 0
  HasDropped gone kept i new = IsListedAfter number (λ k. not (among k (take i gone) && not (among k kept)) && lists old k number) old new

  module _ (locs : List Loc) (i : ℕ) (x : Loc) (lt : i < length locs) (read : x ≡ get_or locs i x) where
    next_among : (k : ℕ) → among k (take (i + 1) locs) ≡ (among k (take i locs) || (x.0 == k))
    next_among k = list_any_more (λ (l : Loc). l.0 == k) locs i x lt ∙ ap (λ (y : Loc). among k (take i locs) || (y.0 == k)) (sym read)

    pub added_more : (mid new : BTreeSet (ℕ × ℕ)) → HasAdded locs i mid
        → IsListedAfter number (λ k. cond (x.0 == k) true (lists mid k number)) mid new → HasAdded locs (i + 1) new
    added_more mid new h step = listed_as (listed_then h step) (λ k.
        rw (h.here k, next_among k) (add_table (among k (take i locs)) (x.0 == k) (lists old k number)))

    module _ (kept : List Loc) (mid : BTreeSet (ℕ × ℕ)) (h : HasDropped locs kept i mid) where
      pub dropped_more : among x.0 kept ≡ false → (new : BTreeSet (ℕ × ℕ))
          → IsListedAfter number (λ k. cond (x.0 == k) false (lists mid k number)) mid new → HasDropped locs kept (i + 1) new
      dropped_more out new step = listed_as (listed_then h step) (λ k.
          rw (h.here k, next_among k) (then_table (among k (take i locs)) (x.0 == k) (among k kept) (lists old k number)
          (λ e. ap (λ q. among q kept) (sym (eqb-true x.0 k e)) ∙ out)))

      pub dropped_kept : among x.0 kept ≡ true → HasDropped locs kept (i + 1) mid
      dropped_kept «in» = listed_as h (λ k.
          rw (next_among k) (else_table (among k (take i locs)) (x.0 == k) (among k kept) (lists old k number)
          (λ e. ap (λ q. among q kept) (sym (eqb-true x.0 k e)) ∙ «in»)))

  pub added_part : (locs : List Loc) (i : ℕ) (mid new : BTreeSet (ℕ × ℕ)) → HasAdded locs i mid → ((k n : ℕ) → lists new k n ≡ lists mid k n)
      → IsBetween number locs old new
  added_part locs i mid new h same = record {
    had = λ k e. same k number ∙ h.here k ∙ or_right (among k (take i locs)) (lists old k number) e;
    elsewhere = λ k e. same k number ∙ h.here k ∙ ap (λ b. b || lists old k number) (among_none k i locs e);
    others = λ k n other. same k n ∙ h.others k n other;
  }
