-- A queue's numbers after an edit of its entries.
use Rattle.std.proofs.Common.{◌≡◌, ◌<◌, ◌≤◌, ◌+◌, ◌==◌, ℕ, zero, suc, true, false, cond, not, List, [], ◌∷◌, ◌++◌, length, set, get_or, Option, Some, None, refl, sym, ap, ◌∙◌, arith}
use Rattle.std.specs.Option.{IfSome, IfNone}
use Rattle.std.proofs.lemmas.List.Quantifiers.{position-Some}
use Rattle.ame_pool.proofs.Words.{QueueEntry, skipping, numbers_in, is_gap, is_of, StartsFull, IsPlaceOf, count_by, filter, position, position_or_len, nat_tests, filter_map-append}
use Rattle.ame_pool.proofs.MemberLemmas.{count_cons, which}

-- ---- one entry at the head
gap_head : (e : QueueEntry) (es : List QueueEntry) → is_gap e ≡ true → numbers_in (e ∷ es) ≡ numbers_in es
gap_head e es h = grind (arith, which e.number, h)

full_head : (e : QueueEntry) (es : List QueueEntry) (n : ℕ) → e.number ≡ Some n → numbers_in (e ∷ es) ≡ n ∷ numbers_in es
full_head e es n h = rw h refl

of_number : (n : ℕ) (e : QueueEntry) → is_of n e ≡ true → e.number ≡ Some n
of_number n e h = grind (arith, nat_tests, which e.number, h)

-- ---- counts
numbers_count : (n : ℕ) (e : QueueEntry) (es : List QueueEntry) → count_by (λ k. k == n) (numbers_in (e ∷ es)) ≡ cond (is_of n e) 1 0 + count_by (λ k. k == n) (numbers_in es)
numbers_count n e es = grind (arith, which e.number, λ (k : ℕ). count_cons (λ j. j == n) k (numbers_in es))

pub has_number : (n : ℕ) (es : List QueueEntry) (i : ℕ) (d : QueueEntry) → i < length es → is_of n (get_or es i d) ≡ true → 1 ≤ count_by (λ k. k == n) (numbers_in es)
has_number n [] i d lt is = absurd (omega arith)
has_number n (e ∷ es) zero d lt is = rw (full_head e es n (of_number n e is)) (grind (arith, nat_tests, count_cons (λ k. k == n) n (numbers_in es)))
has_number n (e ∷ es) (suc i) d lt is = omega (arith, numbers_count n e es, has_number n es i d (omega arith) is)

-- ---- a number leaves
pub gap_made : (n : ℕ) (es : List QueueEntry) (i : ℕ) (d e' : QueueEntry) → i < length es → is_of n (get_or es i d) ≡ true → is_gap e' ≡ true
    → count_by (λ k. k == n) (numbers_in es) ≤ 1 → numbers_in (set es i e') ≡ skipping n (numbers_in es)
gap_made n [] i d e' lt is gap once = absurd (omega arith)
gap_made n (e ∷ es) zero d e' lt is gap once =
    gap_head e' es gap ∙ grind (arith, nat_tests) ∙ ap (skipping n) (sym (full_head e es n (of_number n e is)))
gap_made n (e ∷ es) (suc i) d e' lt is gap once =
    let has = has_number n es i d (omega arith) is in
    let rest = gap_made n es i d e' (omega arith) is gap in
    grind (arith, nat_tests, which e.number, has, rest, once, numbers_count n e es)

pub absent : (n : ℕ) (xs : List ℕ) → count_by (λ k. k == n) xs ≡ 0 → skipping n xs ≡ xs
absent n [] none = refl
absent n (x ∷ xs) none = grind (arith, nat_tests, none, count_cons (λ k. k == n) x xs, absent n xs)

pub shorter : (n : ℕ) (xs : List ℕ) → 1 ≤ count_by (λ k. k == n) xs → length (skipping n xs) + 1 ≡ length xs
shorter n [] has = absurd (omega arith)
shorter n (x ∷ xs) has = grind (arith, nat_tests, has, count_cons (λ k. k == n) x xs, shorter n xs)

past : (n : ℕ) (es : List QueueEntry) → length es ≤ position_or_len (is_of n) es → count_by (λ k. k == n) (numbers_in es) ≡ 0
past n [] h = refl
past n (e ∷ es) h = grind (arith, nat_tests, which e.number, h, past n es, count_cons (λ k. k == n))

-- a look through the queue finds a place, or the number isn't there
pub looked : (n : ℕ) (es : List QueueEntry) (r : Option ℕ) → r ≡ position (is_of n) es
    → IfSome r (IsPlaceOf n es) × IfNone r (count_by (λ k. k == n) (numbers_in es) ≡ 0)
looked n es None e = (tt, past n es (grind (arith, nat_tests, e)))
looked n es (Some i) e = (((position-Some (is_of n) es i (record { ticket = 0; number = None }) (sym e)).0, λ d. (position-Some (is_of n) es i d (sym e)).1), tt)

-- ---- gaps are dropped
pub packed : (es : List QueueEntry) → numbers_in (filter (λ e. not (is_gap e)) es) ≡ numbers_in es
packed [] = refl
packed (e ∷ es) = grind (arith, which e.number, packed es)

pub packed_len : (es : List QueueEntry) → length (filter (λ e. not (is_gap e)) es) ≡ length (numbers_in es)
packed_len [] = refl
packed_len (e ∷ es) = grind (arith, which e.number, packed_len es)

pub packed_starts : (es : List QueueEntry) → StartsFull (filter (λ e. not (is_gap e)) es)
packed_starts [] = refl
packed_starts (e ∷ es) = grind (arith, which e.number, packed_starts es)

-- ---- the front
pub pushed_starts : (es : List QueueEntry) (e : QueueEntry) → StartsFull es → is_gap e ≡ false → StartsFull (es ++ e ∷ [])
pushed_starts [] e s h = h
pushed_starts (o ∷ es) e s h = s

pub pushed_numbers : (es : List QueueEntry) (e : QueueEntry) (n : ℕ) → e.number ≡ Some n → numbers_in (es ++ e ∷ []) ≡ numbers_in es ++ n ∷ []
pushed_numbers es e n h = filter_map-append (λ (e : QueueEntry). e.number) es (e ∷ []) ∙ ap (λ l. numbers_in es ++ l) (full_head e [] n h)
