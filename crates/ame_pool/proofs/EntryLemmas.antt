-- Entries by rising numbers: what a search finds, and what an edit at that place does.
use Rattle.std.proofs.Common.{◌≡◌, ◌<◌, ◌≤◌, ◌==◌, ℕ, zero, suc, Bool, cond, List, [], ◌∷◌, length, set, get_or, All, Some, None, Result, Ok, Err, IfOk, IfErr, refl, sym, subst, arith}
use Rattle.std.specs.List.Sorted.{IsSearchInRange, IsBinarySearchResult, IsNonDecreasingBy}
use Rattle.std.specs.Ordering.{nat_cmp, ordering_index}
use Rattle.std.proofs.lemmas.Cmp.{ranked}
use Rattle.ame_pool.proofs.Words.{Numbered, AreRising, IsEntryOf, IsEntryGap, key_of, filed, nat_lt, insert, filter, nat_tests, cond_both, All-cons, All-head, All-tail}
use Rattle.std.proofs.lemmas.List.Elements.{All-filter}

-- an earlier number is not greater
rising_le : (es : List Numbered) → AreRising es → (i j : ℕ) (d : Numbered) → i ≤ j → j < length es
    → (get_or es i d).number ≤ (get_or es j d).number
rising_le [] r i j d le within = absurd (omega arith)
rising_le (e ∷ es) r zero zero d le within = omega arith
rising_le (e ∷ es) r (suc i) zero d le within = absurd (omega arith)
rising_le (e ∷ es) r zero (suc j) d le within = omega (arith, r.0 j d (omega arith))
rising_le (e ∷ es) r (suc i) (suc j) d le within = rising_le es r.1 i j d (omega arith) (omega arith)

-- how numbers compare with one number rises along the entries
comparisons_rise : (es : List Numbered) → AreRising es → (n : ℕ) → IsNonDecreasingBy (λ e. ordering_index (nat_cmp e.number n)) es
comparisons_rise es r n i j d le within =
    let h = rising_le es r i j d le within in grind (arith, nat_tests, h)

-- what a binary search finds
pub searched : (es : List Numbered) → AreRising es → (n : ℕ) (r : Result ℕ ℕ) → IsSearchInRange r (length es)
    → IsBinarySearchResult (λ e. nat_cmp e.number n) es r → IfOk r (IsEntryOf n es) × IfErr r (IsEntryGap n es)
searched es rises n (Ok i) within found = ((within, λ d. ranked _ n _ (sym (found d))), tt)
searched es rises n (Err i) within parted =
    let p = parted (comparisons_rise es rises n) in (
      tt,
      record {
        within = within;
        before = λ k d low high. ranked _ n _ (sym (p.0 k d low high));
        after = λ k d low high. ranked _ n _ (sym (p.1 k d low high));
      },
    )

-- ---- at the place of a number
-- the look-up gives its entry, and to write over that is to enter
pub at_entry : (es : List Numbered) → AreRising es → (new : Numbered) (i : ℕ) (d : Numbered) → IsEntryOf new.number es i
    → (key_of new.number es ≡ Some (get_or es i d).key) × (set es i new ≡ filed new es)
at_entry [] r new i d at = absurd (omega (arith, at.0))
at_entry (e ∷ es) r new zero d at = let h = at.1 d in (grind (arith, nat_tests, h), grind (arith, nat_tests, h))
at_entry (e ∷ es) r new (suc i) d at =
    let h = at.1 d in let lt = r.0 i d (omega (arith, at.0)) in let rest = at_entry es r.1 new i d (omega (arith, at.0), λ k. at.1 k) in
    (grind (arith, nat_tests, h, lt, rest.0), grind (arith, nat_tests, h, lt, rest.1))

-- ---- at a gap
-- the look-up gives nothing, and to put an entry in is to enter it
pub at_gap : (es : List Numbered) (new : Numbered) (i : ℕ) → IsEntryGap new.number es i → (key_of new.number es ≡ None) × (insert es i new ≡ filed new es)
at_gap [] new zero gap = (refl, refl)
at_gap [] new (suc i) gap = absurd (omega (arith, gap.within))
at_gap (e ∷ es) new zero gap =
    let h = gap.after 0 e (omega arith) (omega arith) in
    let rest = at_gap es new zero (record {
      within = omega arith;
      before = λ k d low high. absurd (omega arith);
      after = λ k d low high. gap.after (suc k) d (omega arith) (omega arith);
    }) in
    (grind (arith, nat_tests, h, rest.0), grind (arith, nat_tests, h))
at_gap (e ∷ es) new (suc i) gap =
    let h = gap.before 0 e (omega arith) (omega arith) in
    let rest = at_gap es new i (record {
      within = omega (arith, gap.within);
      before = λ k d low high. gap.before (suc k) d (omega arith) (omega arith);
      after = λ k d low high. gap.after (suc k) d (omega arith) (omega arith);
    }) in
    (grind (arith, nat_tests, h, rest.0), grind (arith, nat_tests, h, rest.1))

-- ---- an entry at its place
pub key_filed : (new : Numbered) (es : List Numbered) (k : ℕ) → key_of k (filed new es) ≡ cond (new.number == k) (Some new.key) (key_of k es)
key_filed new [] k = refl
key_filed new (e ∷ es) k = grind (arith, nat_tests, key_filed new es k)

all_filed : (P : Numbered → Type 0) (new : Numbered) → P new → (es : List Numbered) → All P es → All P (filed new es)
all_filed P new p [] h = All-cons P new [] p h
all_filed P new p (e ∷ es) h =
    let first = All-head P e es h in
    let rest = All-tail P e es h in
    cond_both (nat_lt new.number e.number) (new ∷ e ∷ es) (cond (e.number == new.number) (new ∷ es) (e ∷ filed new es)) (All P)
    (λ _. All-cons P new (e ∷ es) p h)
    (λ _. cond_both (e.number == new.number) (new ∷ es) (e ∷ filed new es) (All P)
    (λ _. All-cons P new es p rest) (λ _. All-cons P e (filed new es) first (all_filed P new p es rest)))

pub rising_filed : (es : List Numbered) → AreRising es → (new : Numbered) → AreRising (filed new es)
rising_filed [] r new = ((λ k d h. absurd (omega arith)), tt)
rising_filed (e ∷ es) r new =
    cond_both (nat_lt new.number e.number) (new ∷ e ∷ es) (cond (e.number == new.number) (new ∷ es) (e ∷ filed new es)) AreRising
    (λ t. let lt : new.number < e.number = grind (arith, nat_tests, t) in
    (All-cons (λ o. new.number < o.number) e es lt (λ k d q. let f = r.0 k d q in omega (arith, f, lt)), r))
    (λ t. cond_both (e.number == new.number) (new ∷ es) (e ∷ filed new es) AreRising
    (λ same. let q : e.number ≡ new.number = grind (arith, nat_tests, same) in (subst (λ n. All (λ o. n < o.number) es) q r.0, r.1))
    (λ other. (all_filed (λ o. e.number < o.number) new (grind (arith, nat_tests, t, other)) es r.0, rising_filed es r.1 new)))

-- ---- where some entries are dropped
pub rising_filtered : (p : Numbered → Bool) (es : List Numbered) → AreRising es → AreRising (filter p es)
rising_filtered p [] r = r
rising_filtered p (e ∷ es) r =
    let rest = rising_filtered p es r.1 in
    cond_both (p e) (e ∷ filter p es) (filter p es) AreRising (λ _. (All-filter p (λ o. e.number < o.number) es r.0, rest)) (λ _. rest)
