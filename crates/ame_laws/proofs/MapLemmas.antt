-- Finite maps by number: what a look-up finds after an entry was put, changed or removed, what holds of
-- all entries then, and that their numbers still rise.
use Rattle.std.proofs.Common.{◌≡◌, ℕ, ◌<◌, ◌==◌, List, [], ◌∷◌, ◌++◌, ◌⊎◌, Bool, true, false, Option, Some, None, cond, refl, sym, ap, ◌∙◌, subst, inl, inr, is_some, arith}
use Rattle.std.specs.declared.cmp.Ordering.{Ordering}
use Rattle.std.specs.declared.cmp.Ordering.TheVariants.{Less, Equal, Greater}
use Rattle.std.specs.Ordering.{MatchOrdering, match_ordering, is_eq, nat_cmp}
use Rattle.std.specs.List.{AllByRecursion}
use Rattle.std.specs.List.Sorted.{IsStrictlySortedBy}
use Rattle.std.specs.Map.{keys_of}
use Rattle.std.specs.BTreeMap.{is_at}
use Rattle.std.specs.Cmp.{nat_cmp_is}
use Rattle.std.proofs.lemmas.Cmp.{ranked}
use Rattle.ame_term.specs.Maps.{at, put, change, without}
use Rattle.ame_laws.specs.Orderly.{NumbersRise}

-- Numbers and their order.

pub is_at-same : (i n : ℕ) → is_at (nat_cmp i) n ≡ true → i ≡ n
is_at-same i n e = by (nat_cmp i n) (ranked i n (nat_cmp i n) refl) e
  where
    by : (o : Ordering) → MatchOrdering o (i < n) (i ≡ n) (n < i) → is_eq o ≡ true → i ≡ n
    by Less h e = cc
    by Equal h e = h
    by Greater h e = cc

pub is_at-apart : (i n : ℕ) → (n ≡ i → ⊥) → is_at (nat_cmp i) n ≡ false
is_at-apart i n apart = by (nat_cmp i n) (ranked i n (nat_cmp i n) refl)
  where
    by : (o : Ordering) → MatchOrdering o (i < n) (i ≡ n) (n < i) → is_eq o ≡ false
    by Less h = refl
    by Equal h = absurd (apart (sym h))
    by Greater h = refl

pub is_at-here : (n : ℕ) → is_at (nat_cmp n) n ≡ true
is_at-here n = by (nat_cmp n n) (ranked n n (nat_cmp n n) refl)
  where
    by : (o : Ordering) → MatchOrdering o (n < n) (n ≡ n) (n < n) → is_eq o ≡ true
    by Less h = absurd (omega arith)
    by Equal h = refl
    by Greater h = absurd (omega arith)

is_at-differs : (i n : ℕ) → is_at (nat_cmp i) n ≡ false → n ≡ i → ⊥
is_at-differs i n away same =
    let here : is_at (nat_cmp i) n ≡ true = subst (λ (k : ℕ). is_at (nat_cmp i) k ≡ true) (sym same) (is_at-here i) in
    let clash : true ≡ false = sym here ∙ away in
    cc

-- the test of an entry is equality of numbers
pub is_at-eq : (i n : ℕ) → is_at (nat_cmp i) n ≡ (i == n)
is_at-eq i n = by (nat_cmp i n) (ranked i n (nat_cmp i n) refl)
  where
    by : (o : Ordering) → MatchOrdering o (i < n) (i ≡ n) (n < i) → is_eq o ≡ (i == n)
    by Less h = grind arith
    by Equal h = grind arith
    by Greater h = grind arith

pub less-from_lt : (a b : ℕ) → a < b → nat_cmp a b ≡ Less
less-from_lt a b below = sym (nat_cmp_is a b Less below)

pub lt-from_less : (a b : ℕ) → nat_cmp a b ≡ Less → a < b
lt-from_less a b less = subst (λ (o : Ordering). MatchOrdering o (a < b) (a ≡ b) (b < a)) less (ranked a b (nat_cmp a b) refl)

greater : (a k : ℕ) → nat_cmp a k ≡ Less → nat_cmp k a ≡ Greater
greater a k less = sym (nat_cmp_is k a Greater (lt-from_less a k less))

pub all-numbers : (P Q : ℕ → Type 0) → ((k : ℕ) → P k → Q k) → (ks : List ℕ) → AllByRecursion P ks → AllByRecursion Q ks
all-numbers P Q f [] all = tt
all-numbers P Q f (k ∷ ks) all = (f k all.0, all-numbers P Q f ks all.1)

-- Look-ups.

module _ {X : Type 0} where
  pub at-put_same : (es : List (ℕ × X)) (n : ℕ) (x : X) → at (put es n x) n ≡ Some x
  at-put_same [] n x = rw (is_at-here n)
  at-put_same (e ∷ es) n x = by (nat_cmp n e.0) (ranked n e.0 (nat_cmp n e.0) refl) (at-put_same es n x)
    where
      by : (o : Ordering) → MatchOrdering o (n < e.0) (n ≡ e.0) (e.0 < n) → at (put es n x) n ≡ Some x
          → at (match_ordering o ((n, x) ∷ e ∷ es) ((e.0, x) ∷ es) (e ∷ put es n x)) n ≡ Some x
      by Less h rest = rw (is_at-here n)
      by Equal h rest =
          let here : is_at (nat_cmp n) e.0 ≡ true = subst (λ (k : ℕ). is_at (nat_cmp n) k ≡ true) h (is_at-here n) in
          rw here
      by Greater h rest =
          let away : is_at (nat_cmp n) e.0 ≡ false = is_at-apart n e.0 (λ same. omega arith) in
          rw away rest

  pub at-put_other : (es : List (ℕ × X)) (n i : ℕ) (x : X) → (n ≡ i → ⊥) → at (put es n x) i ≡ at es i
  at-put_other [] n i x apart = rw (is_at-apart i n apart)
  at-put_other (e ∷ es) n i x apart = by (nat_cmp n e.0) (ranked n e.0 (nat_cmp n e.0) refl) (at-put_other es n i x apart)
    where
      by : (o : Ordering) → MatchOrdering o (n < e.0) (n ≡ e.0) (e.0 < n) → at (put es n x) i ≡ at es i
          → at (match_ordering o ((n, x) ∷ e ∷ es) ((e.0, x) ∷ es) (e ∷ put es n x)) i ≡ at (e ∷ es) i
      by Less h rest = rw (is_at-apart i n apart)
      by Equal h rest = let away : is_at (nat_cmp i) e.0 ≡ false = is_at-apart i e.0 (λ same. apart (h ∙ same)) in rw away
      by Greater h rest = rw rest

  -- a new entry is found, and each other number has what it had
  pub at-put : (es : List (ℕ × X)) (n i : ℕ) (x : X)
      → ((n ≡ i) × (at (put es n x) i ≡ Some x)) ⊎ (((n ≡ i) → ⊥) × (at (put es n x) i ≡ at es i))
  at-put es n i x = by (is_at (nat_cmp i) n) refl
    where
      by : (b : Bool) → is_at (nat_cmp i) n ≡ b
          → ((n ≡ i) × (at (put es n x) i ≡ Some x)) ⊎ (((n ≡ i) → ⊥) × (at (put es n x) i ≡ at es i))
      by true is =
          let same : n ≡ i = sym (is_at-same i n is) in
          inl (same, subst (λ (k : ℕ). at (put es n x) k ≡ Some x) same (at-put_same es n x))
      by false is = inr (is_at-differs i n is, at-put_other es n i x (is_at-differs i n is))

  pub is_some-put : (es : List (ℕ × X)) (n i : ℕ) (x : X) → is_some (at es i) ≡ true → is_some (at (put es n x) i) ≡ true
  is_some-put es n i x there = elim (at-put es n i x) [ inl p ↦ ap is_some p.1 | inr p ↦ ap is_some p.1 ∙ there ]

  pub at-change_same : (es : List (ℕ × X)) (n : ℕ) (x : X) → is_some (at es n) ≡ true → at (change es n x) n ≡ Some x
  at-change_same [] n x there = cc
  at-change_same (e ∷ es) n x there = by (is_at (nat_cmp n) e.0) refl there (at-change_same es n x)
    where
      by : (b : Bool) → is_at (nat_cmp n) e.0 ≡ b → is_some (cond b (Some e.1) (at es n)) ≡ true
          → (is_some (at es n) ≡ true → at (change es n x) n ≡ Some x) → at (cond b ((e.0, x) ∷ es) (e ∷ change es n x)) n ≡ Some x
      by true is there rest = rw is
      by false is there rest = rw is (rest there)

  pub at-change_other : (es : List (ℕ × X)) (n i : ℕ) (x : X) → (n ≡ i → ⊥) → at (change es n x) i ≡ at es i
  at-change_other [] n i x apart = refl
  at-change_other (e ∷ es) n i x apart = by (is_at (nat_cmp n) e.0) refl (at-change_other es n i x apart)
    where
      by : (b : Bool) → is_at (nat_cmp n) e.0 ≡ b → at (change es n x) i ≡ at es i
          → at (cond b ((e.0, x) ∷ es) (e ∷ change es n x)) i ≡ at (e ∷ es) i
      by true is rest =
          let away : is_at (nat_cmp i) e.0 ≡ false = is_at-apart i e.0 (λ same. apart (is_at-same n e.0 is ∙ same)) in
          rw away
      by false is rest = rw rest

  -- a change at a number that isn't there changes nothing
  pub change-absent : (es : List (ℕ × X)) (n : ℕ) (x : X) → at es n ≡ None → change es n x ≡ es
  change-absent [] n x absent = refl
  change-absent (e ∷ es) n x absent = by (is_at (nat_cmp n) e.0) absent (change-absent es n x)
    where
      by : (b : Bool) → cond b (Some e.1) (at es n) ≡ None → (at es n ≡ None → change es n x ≡ es)
          → cond b ((e.0, x) ∷ es) (e ∷ change es n x) ≡ e ∷ es
      by true absent rest = cc
      by false absent rest = ap (λ (r : List (ℕ × X)). e ∷ r) (rest absent)

  -- the numbers that are there stay the same
  pub is_some-change : (es : List (ℕ × X)) (n i : ℕ) (x : X) → is_some (at (change es n x) i) ≡ is_some (at es i)
  is_some-change [] n i x = refl
  is_some-change (e ∷ es) n i x = by (is_at (nat_cmp n) e.0) (is_some-change es n i x)
    where
      here : (c : Bool) → is_some (cond c (Some x) (at es i)) ≡ is_some (cond c (Some e.1) (at es i))
      here true = refl
      here false = refl

      there : (c : Bool) → is_some (at (change es n x) i) ≡ is_some (at es i)
          → is_some (cond c (Some e.1) (at (change es n x) i)) ≡ is_some (cond c (Some e.1) (at es i))
      there true rest = refl
      there false rest = rest

      by : (b : Bool) → is_some (at (change es n x) i) ≡ is_some (at es i)
          → is_some (at (cond b ((e.0, x) ∷ es) (e ∷ change es n x)) i) ≡ is_some (at (e ∷ es) i)
      by true rest = here (is_at (nat_cmp i) e.0)
      by false rest = there (is_at (nat_cmp i) e.0) rest

  pub at-without_other : (es : List (ℕ × X)) (n i : ℕ) → (n ≡ i → ⊥) → at (without es n) i ≡ at es i
  at-without_other [] n i apart = refl
  at-without_other (e ∷ es) n i apart = by (is_at (nat_cmp n) e.0) refl (at-without_other es n i apart)
    where
      by : (b : Bool) → is_at (nat_cmp n) e.0 ≡ b → at (without es n) i ≡ at es i → at (cond b es (e ∷ without es n)) i ≡ at (e ∷ es) i
      by true is rest =
          let away : is_at (nat_cmp i) e.0 ≡ false = is_at-apart i e.0 (λ same. apart (is_at-same n e.0 is ∙ same)) in
          rw away
      by false is rest = rw rest

  -- a number below all others isn't there
  pub at-below_all : (es : List (ℕ × X)) (n : ℕ) → AllByRecursion (λ k. nat_cmp n k ≡ Less) (keys_of es) → at es n ≡ None
  at-below_all [] n all = refl
  at-below_all (e ∷ es) n all = rw (all.0) (at-below_all es n all.1)

  pub at-without_same : (es : List (ℕ × X)) (n : ℕ) → NumbersRise es → at (without es n) n ≡ None
  unfolding IsStrictlySortedBy
  at-without_same [] n rise = refl
  at-without_same (e ∷ es) n rise = by (is_at (nat_cmp n) e.0) refl (at-without_same es n rise.1)
    where
      by : (b : Bool) → is_at (nat_cmp n) e.0 ≡ b → at (without es n) n ≡ None → at (cond b es (e ∷ without es n)) n ≡ None
      by true is rest =
          at-below_all es n (subst (λ (m : ℕ). AllByRecursion (λ k. nat_cmp m k ≡ Less) (keys_of es)) (sym (is_at-same n e.0 is)) rise.0)
      by false is rest = rw is rest

  -- Facts about all numbers.

  pub numbers-put : (P : ℕ → Type 0) (es : List (ℕ × X)) (n : ℕ) (x : X) → P n → AllByRecursion P (keys_of es) → AllByRecursion P (keys_of (put es n x))
  numbers-put P [] n x p all = (p, tt)
  numbers-put P (e ∷ es) n x p all = by (nat_cmp n e.0) (numbers-put P es n x p all.1)
    where
      by : (o : Ordering) → AllByRecursion P (keys_of (put es n x))
          → AllByRecursion P (keys_of (match_ordering o ((n, x) ∷ e ∷ es) ((e.0, x) ∷ es) (e ∷ put es n x)))
      by Less rest = (p, all)
      by Equal rest = all
      by Greater rest = (all.0, rest)

  pub numbers-change : (es : List (ℕ × X)) (n : ℕ) (x : X) → keys_of (change es n x) ≡ keys_of es
  numbers-change [] n x = refl
  numbers-change (e ∷ es) n x = by (is_at (nat_cmp n) e.0) (numbers-change es n x)
    where
      by : (b : Bool) → keys_of (change es n x) ≡ keys_of es → keys_of (cond b ((e.0, x) ∷ es) (e ∷ change es n x)) ≡ keys_of (e ∷ es)
      by true rest = refl
      by false rest = ap (λ (ks : List ℕ). e.0 ∷ ks) rest

  pub numbers-without : (P : ℕ → Type 0) (es : List (ℕ × X)) (n : ℕ) → AllByRecursion P (keys_of es) → AllByRecursion P (keys_of (without es n))
  numbers-without P [] n all = tt
  numbers-without P (e ∷ es) n all = by (is_at (nat_cmp n) e.0) (numbers-without P es n all.1)
    where
      by : (b : Bool) → AllByRecursion P (keys_of (without es n)) → AllByRecursion P (keys_of (cond b es (e ∷ without es n)))
      by true rest = all.1
      by false rest = (all.0, rest)

  -- what holds of all numbers holds of one that is found
  pub numbers-at : (P : ℕ → Type 0) (es : List (ℕ × X)) (n : ℕ) → is_some (at es n) ≡ true → AllByRecursion P (keys_of es) → P n
  numbers-at P [] n there all = absurd (cc)
  numbers-at P (e ∷ es) n there all = by (is_at (nat_cmp n) e.0) refl there (λ found. numbers-at P es n found all.1)
    where
      by : (b : Bool) → is_at (nat_cmp n) e.0 ≡ b → is_some (cond b (Some e.1) (at es n)) ≡ true → (is_some (at es n) ≡ true → P n) → P n
      by true is there rest = subst P (sym (is_at-same n e.0 is)) all.0
      by false is there rest = rest there

  -- The numbers rise.

  pub rise-put : (es : List (ℕ × X)) (n : ℕ) (x : X) → NumbersRise es → NumbersRise (put es n x)
  unfolding IsStrictlySortedBy
  rise-put [] n x rise = (tt, tt)
  rise-put (e ∷ es) n x rise = by (nat_cmp n e.0) refl (ranked n e.0 (nat_cmp n e.0) refl) (rise-put es n x rise.1)
    where
      by : (o : Ordering) → nat_cmp n e.0 ≡ o → MatchOrdering o (n < e.0) (n ≡ e.0) (e.0 < n) → NumbersRise (put es n x)
          → NumbersRise (match_ordering o ((n, x) ∷ e ∷ es) ((e.0, x) ∷ es) (e ∷ put es n x))
      by Less is h rest = (
        (
          is,
          all-numbers (λ k. nat_cmp e.0 k ≡ Less) (λ k. nat_cmp n k ≡ Less)
              (λ k above. let more : e.0 < k = lt-from_less e.0 k above in less-from_lt n k (omega arith)) (keys_of es) rise.0,
        ),
        rise,
      )
      by Equal is h rest = rise
      by Greater is h rest = (numbers-put (λ k. nat_cmp e.0 k ≡ Less) es n x (less-from_lt e.0 n h) rise.0, rest)

  pub rise-change : (es : List (ℕ × X)) (n : ℕ) (x : X) → NumbersRise es → NumbersRise (change es n x)
  rise-change es n x rise = subst (λ (ks : List ℕ). IsStrictlySortedBy nat_cmp ks) (sym (numbers-change es n x)) rise

  pub rise-without : (es : List (ℕ × X)) (n : ℕ) → NumbersRise es → NumbersRise (without es n)
  unfolding IsStrictlySortedBy
  rise-without [] n rise = tt
  rise-without (e ∷ es) n rise = by (is_at (nat_cmp n) e.0) (rise-without es n rise.1)
    where
      by : (b : Bool) → NumbersRise (without es n) → NumbersRise (cond b es (e ∷ without es n))
      by true rest = rise.1
      by false rest = (numbers-without (λ k. nat_cmp e.0 k ≡ Less) es n rise.0, rest)

  -- A number that follows those of a list goes to its end.

  all_mid : (a : ℕ) (es ys : List (ℕ × X)) (k : ℕ) (y : X) → AllByRecursion (λ z. nat_cmp a z ≡ Less) (keys_of (es ++ (k, y) ∷ ys)) → nat_cmp a k ≡ Less
  all_mid a [] ys k y all = all.0
  all_mid a (e ∷ es) ys k y all = all_mid a es ys k y all.1

  pub put-last : (es ys : List (ℕ × X)) (k : ℕ) (y : X) → NumbersRise (es ++ (k, y) ∷ ys) → put es k y ++ ys ≡ es ++ (k, y) ∷ ys
  unfolding IsStrictlySortedBy
  put-last [] ys k y rise = refl
  put-last (e ∷ es) ys k y rise =
      rw (greater e.0 k (all_mid e.0 es ys k y rise.0)) (ap (λ (r : List (ℕ × X)). e ∷ r) (put-last es ys k y rise.1))

  -- Two maps that find the same are one.

  at-first : (e : ℕ × X) (es : List (ℕ × X)) → at (e ∷ es) e.0 ≡ Some e.1
  at-first e es = rw (is_at-here e.0)

  at-later : (e : ℕ × X) (es : List (ℕ × X)) (n : ℕ) → (e.0 ≡ n → ⊥) → at (e ∷ es) n ≡ at es n
  at-later e es n apart = rw (is_at-apart n e.0 apart)

  above_all : (es : List (ℕ × X)) (e f : ℕ × X) → e.0 < f.0 → AllByRecursion (λ k. nat_cmp f.0 k ≡ Less) (keys_of es)
      → at (f ∷ es) e.0 ≡ None
  above_all es e f below all =
      at-below_all (f ∷ es) e.0 (
        less-from_lt e.0 f.0 below,
        all-numbers (λ k. nat_cmp f.0 k ≡ Less) (λ k. nat_cmp e.0 k ≡ Less)
            (λ k above. let more : f.0 < k = lt-from_less f.0 k above in less-from_lt e.0 k (omega arith)) (keys_of es) all,
      )

  -- a key that one map has and another can't have
  clash_of : (e : ℕ × X) (es fs : List (ℕ × X)) → at (e ∷ es) e.0 ≡ at fs e.0 → at fs e.0 ≡ None → ⊥
  clash_of e es fs same none = let both : ◌≡◌ {A = Option X} (Some e.1) None = sym (at-first e es) ∙ same ∙ none in cc

  tails_alike : (e f : ℕ × X) (es fs : List (ℕ × X)) → e.0 ≡ f.0 → AllByRecursion (λ k. nat_cmp e.0 k ≡ Less) (keys_of es)
      → AllByRecursion (λ k. nat_cmp f.0 k ≡ Less) (keys_of fs) → ((n : ℕ) → at (e ∷ es) n ≡ at (f ∷ fs) n) → (n : ℕ) → at es n ≡ at fs n
  tails_alike e f es fs heads all others same n = by (is_at (nat_cmp n) e.0) refl
    where
      by : (b : Bool) → is_at (nat_cmp n) e.0 ≡ b → at es n ≡ at fs n
      by true is =
          let here : n ≡ e.0 = is_at-same n e.0 is in
          ap (at es) here ∙ at-below_all es e.0 all ∙ sym (ap (at fs) (here ∙ heads) ∙ at-below_all fs f.0 others)
      by false is =
          let apart = is_at-differs n e.0 is in
          sym (at-later e es n apart) ∙ same n ∙ at-later f fs n (λ here. apart (heads ∙ here))

  pub found-alike : (es fs : List (ℕ × X)) → NumbersRise es → NumbersRise fs → ((n : ℕ) → at es n ≡ at fs n) → es ≡ fs
  unfolding IsStrictlySortedBy
  found-alike [] [] rise others same = refl
  found-alike [] (f ∷ fs) rise others same = absurd (clash_of f fs [] (sym (same f.0)) refl)
  found-alike (e ∷ es) [] rise others same = absurd (clash_of e es [] (same e.0) refl)
  found-alike (e ∷ es) (f ∷ fs) rise others same = by (nat_cmp e.0 f.0) (ranked e.0 f.0 (nat_cmp e.0 f.0) refl) (found-alike es fs rise.1 others.1)
    where
      by : (o : Ordering) → MatchOrdering o (e.0 < f.0) (e.0 ≡ f.0) (f.0 < e.0) → (((n : ℕ) → at es n ≡ at fs n) → es ≡ fs)
          → ◌≡◌ {A = List (ℕ × X)} (e ∷ es) (f ∷ fs)
      by Less h rest = absurd (clash_of e es (f ∷ fs) (same e.0) (above_all fs e f h others.0))
      by Greater h rest = absurd (clash_of f fs (e ∷ es) (sym (same f.0)) (above_all es f e h rise.0))
      by Equal h rest =
          let both : ◌≡◌ {A = Option X} (Some e.1) (Some f.1) =
          sym (at-first e es) ∙ same e.0 ∙ ap (at (f ∷ fs)) h ∙ at-first f fs in
          let value : e.1 ≡ f.1 = cc in
          let head : e ≡ f = λ i. (h i, value i) in
          λ i. head i ∷ rest (tails_alike e f es fs h rise.0 others.0 same) i

-- Facts about all values.

module _ {X : Type 0} (P : X → Type 0) where
  abbrev pub Each : List (ℕ × X) → Type 0
  Each es = AllByRecursion (λ e. P e.1) es

  pub each-at : (es : List (ℕ × X)) (n : ℕ) (x : X) → at es n ≡ Some x → Each es → P x
  each-at [] n x e all = absurd (cc)
  each-at (e ∷ es) n x found all = by (is_at (nat_cmp n) e.0) found (λ p. each-at es n x p all.1)
    where
      opened : ◌≡◌ {A = Option X} (Some e.1) (Some x) → e.1 ≡ x
      opened p = cc

      by : (b : Bool) → cond b (Some e.1) (at es n) ≡ Some x → (at es n ≡ Some x → P x) → P x
      by true p rest = subst P (opened p) all.0
      by false p rest = rest p

  pub each-put : (es : List (ℕ × X)) (n : ℕ) (x : X) → P x → Each es → Each (put es n x)
  each-put [] n x p all = (p, tt)
  each-put (e ∷ es) n x p all = by (nat_cmp n e.0) (each-put es n x p all.1)
    where
      by : (o : Ordering) → Each (put es n x) → Each (match_ordering o ((n, x) ∷ e ∷ es) ((e.0, x) ∷ es) (e ∷ put es n x))
      by Less rest = (p, all)
      by Equal rest = (p, all.1)
      by Greater rest = (all.0, rest)

  pub each-change : (es : List (ℕ × X)) (n : ℕ) (x : X) → P x → Each es → Each (change es n x)
  each-change [] n x p all = tt
  each-change (e ∷ es) n x p all = by (is_at (nat_cmp n) e.0) (each-change es n x p all.1)
    where
      by : (b : Bool) → Each (change es n x) → Each (cond b ((e.0, x) ∷ es) (e ∷ change es n x))
      by true rest = (p, all.1)
      by false rest = (all.0, rest)

  pub each-without : (es : List (ℕ × X)) (n : ℕ) → Each es → Each (without es n)
  each-without [] n all = tt
  each-without (e ∷ es) n all = by (is_at (nat_cmp n) e.0) (each-without es n all.1)
    where
      by : (b : Bool) → Each (without es n) → Each (cond b es (e ∷ without es n))
      by true rest = all.1
      by false rest = (all.0, rest)

pub each-map : {X : Type 0} (P Q : X → Type 0) → ((x : X) → P x → Q x) → (es : List (ℕ × X)) → Each P es → Each Q es
each-map P Q f [] all = tt
each-map P Q f (e ∷ es) all = (f e.1 all.0, each-map P Q f es all.1)
