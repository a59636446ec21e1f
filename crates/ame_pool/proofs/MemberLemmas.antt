-- A list with a member altered, with one more, and with one less: who has which number, how many pass a test, and that numbers still rise.
use Rattle.std.proofs.Common.{◌≡◌, ◌<◌, ◌≤◌, ◌+◌, ◌==◌, ℕ, Bool, true, false, cond, List, [], ◌∷◌, length, map, Option, Some, None, option_map, refl, sym, ap, subst, ◌∙◌, inl, inr, arith}
use Rattle.std.specs.List.{All}
use Rattle.std.proofs.lemmas.Option.{same_Some}
use Rattle.ame_pool.proofs.Words.{Member, IsRising, find, altered, placed, except, IsFoundAfter, count_by, nat_tests, sum_by-cons, All-nil, All-cons, All-head, All-tail, All-weaker, cases_eq, cond_both, nat_lt, MemberStanding, Watch}
use Rattle.std.specs.Prelude.{◌⊎◌}

-- cases for a search
pub which : {X : Type 0} (o : Option X) → (o ≡ None) ⊎ ((x : X) × (o ≡ Some x))
which None = inl refl
which (Some x) = inr (x, refl)

pub standing_is : (s : MemberStanding) → (s ≡ MemberStanding.Ready) ⊎ (s ≡ MemberStanding.Busy None) ⊎ ((w : Watch) × (s ≡ MemberStanding.Busy (Some w))) ⊎ ((locs : List ℕ) × (s ≡ MemberStanding.Parked locs))
standing_is MemberStanding.Ready = inl refl
standing_is (MemberStanding.Busy None) = inr (inl refl)
standing_is (MemberStanding.Busy (Some w)) = inr (inr (inl (w, refl)))
standing_is (MemberStanding.Parked locs) = inr (inr (inr (locs, refl)))

pub count_cons : {X : Type 0} (p : X → Bool) (x : X) (xs : List X) → count_by p (x ∷ xs) ≡ cond (p x) 1 0 + count_by p xs
count_cons p x xs = sum_by-cons (λ y. cond (p y) 1 0) x xs

-- every item passes the test that all pass
pub count_all : {X : Type 0} (xs : List X) → count_by (λ _. true) xs ≡ length xs
count_all [] = refl
count_all (x ∷ xs) = omega (arith, count_all xs, count_cons (λ _. true) x xs)

module _ {M : Type 0} where
  pub find_number : (n : ℕ) (ms : List (Member M)) (m : Member M) → find n ms ≡ Some m → m.number ≡ n
  find_number n [] m e = cc
  find_number n (o ∷ ms) m e = grind (arith, nat_tests, e, find_number n ms m)

  -- the first one passes what all others pass, and another one with the number does
  pub find_passes : (P : Member M → Type 0) (n : ℕ) (ms : List (Member M)) → All P ms → (m : Member M) → find n ms ≡ Some m → P m
  find_passes P n [] all m e = cc
  find_passes P n (o ∷ ms) all m e =
      cond_both (o.number == n) (Some o) (find n ms) (λ q. q ≡ Some m → P m)
      (λ _ h. subst P (same_Some o m h) (All-head P o ms all))
      (λ _ h. find_passes P n ms (All-tail P o ms all) m h) e

  -- no member has a number below all
  pub none_above : (n : ℕ) (ms : List (Member M)) → All (λ o. n < o.number) ms → find n ms ≡ None
  none_above n [] all = refl
  none_above n (m ∷ ms) all =
      let P : Member M → Type 0 = λ o. n < o.number in
      grind (arith, nat_tests, All-head P m ms all, none_above n ms (All-tail P m ms all))

  -- what is so of each member with a number is so of all
  pub all_found : (P : Member M → Type 0) (ms : List (Member M)) → IsRising ms → ((n : ℕ) (m : Member M) → find n ms ≡ Some m → P m) → All P ms
  all_found P [] r h = All-nil P
  all_found P (m ∷ ms) r h =
      All-cons P m ms (h m.number m (grind (arith, nat_tests))) (all_found P ms r.1 (λ n o e.
      let above = find_passes (λ (q : Member M). m.number < q.number) n ms r.0 o e in
      h n o (grind (arith, nat_tests, above, find_number n ms o e, e))))

  -- an edit of those above a number that brings no member below it leaves all above it
  still_above : (n : ℕ) (old new : List (Member M)) → All (λ q. n < q.number) old → IsRising new
      → ((k : ℕ) → k ≤ n → find k old ≡ None → find k new ≡ None) → All (λ q. n < q.number) new
  still_above n old new above r fewer =
      all_found (λ (q : Member M). n < q.number) new r (λ k q e.
      let none : k ≤ n → find k old ≡ None
      = λ le. none_above k old (All-weaker (λ (q : Member M). n < q.number) (λ q. k < q.number) (λ q lt. omega (arith, lt, le)) old above) in
      grind (arith, find_number k new q e, e, none, fewer k))

  -- look-ups determine a rising list
  pub rising_same : (xs ys : List (Member M)) → IsRising xs → IsRising ys → ((n : ℕ) → find n xs ≡ find n ys) → xs ≡ ys
  rising_same [] [] r s h = refl
  rising_same [] (y ∷ ys) r s h = let e = h y.number in absurd (grind (arith, nat_tests, e))
  rising_same (x ∷ xs) [] r s h = let e = h x.number in absurd (grind (arith, nat_tests, e))
  rising_same (x ∷ xs) (y ∷ ys) r s h =
      let up = find_passes (λ (q : Member M). x.number < q.number) y.number xs r.0 y in
      let down = find_passes (λ (q : Member M). y.number < q.number) x.number ys s.0 x in
      let head : x ≡ y = grind (arith, nat_tests, h x.number, h y.number, up, down) in
      let rest : xs ≡ ys = rising_same xs ys r.1 s.1 (λ n. let e = h n in let lone = none_above x.number xs r.0 in let lone' = none_above y.number ys s.0 in
      grind (arith, nat_tests, e, lone, lone', head)) in
      ap (λ q. q ∷ xs) head ∙ ap (λ l. y ∷ l) rest

  -- ---- any edit of a number
  found_by : (n : ℕ) (f : Option (Member M) → Option (Member M)) (old new : List (Member M))
      → ((k : ℕ) → find k new ≡ cond (n == k) (f (find n old)) (find k old)) → (IsRising old → IsRising new) → IsFoundAfter n f old new
  found_by n f old new law rises = record {
    here = grind (arith, nat_tests, law n);
    others = λ k other. grind (arith, nat_tests, law k, other);
    rising = rises;
  }

  -- what all pass, all pass then, if the member with the number does
  pub all_after : {n : ℕ} {f : Option (Member M) → Option (Member M)} {old new : List (Member M)} → IsFoundAfter n f old new → IsRising old
      → (P : Member M → Type 0) → All P old → ((m : Member M) → f (find n old) ≡ Some m → P m) → All P new
  all_after {n} {f} {old} {new} found r P all here =
      all_found P new (found.rising r) (λ k m e. elim (cases_eq k n) [
        | inl same ↦ here m (sym found.here ∙ subst (λ j. find j new ≡ Some m) same e)
        | inr other ↦ find_passes P k old all m (sym (found.others k other) ∙ e)
      ])

  -- ---- one member altered
  module _ (n : ℕ) (f : Member M → Member M) where
    pub count_altered : (p : Member M → Bool) (ms : List (Member M)) (m : Member M) → find n ms ≡ Some m
        → count_by p (altered n f ms) + cond (p m) 1 0 ≡ count_by p ms + cond (p (f m)) 1 0
    count_altered p [] m e = cc
    count_altered p (o ∷ ms) m e =
        grind (arith, nat_tests, e, count_cons p (f o) ms, count_cons p o (altered n f ms), count_cons p o ms, count_altered p ms m)

    pub length_altered : (ms : List (Member M)) → length (altered n f ms) ≡ length ms
    length_altered [] = refl
    length_altered (o ∷ ms) = grind (arith, nat_tests, length_altered ms)

    module _ (num : (m : Member M) → (f m).number ≡ m.number) where
      find_altered : (ms : List (Member M)) (k : ℕ) → find k (altered n f ms) ≡ cond (n == k) (option_map f (find n ms)) (find k ms)
      find_altered [] k = grind (arith, nat_tests)
      find_altered (o ∷ ms) k = grind (arith, nat_tests, num o, find_altered ms k)

      rising_altered : (ms : List (Member M)) → IsRising ms → IsRising (altered n f ms)
      rising_altered [] r = r
      rising_altered (o ∷ ms) r =
          let rest = rising_altered ms r.1 in
          cond_both (o.number == n) (f o ∷ ms) (o ∷ altered n f ms) IsRising
          (λ _. (subst (λ k. All (λ (q : Member M). k < q.number) ms) (sym (num o)) r.0, r.1))
          (λ _. (still_above o.number ms (altered n f ms) r.0 rest (λ k _ none. grind (arith, nat_tests, none, find_altered ms k)), rest))

      pub found_altered : (ms : List (Member M)) → IsFoundAfter n (option_map f) ms (altered n f ms)
      found_altered ms = found_by n (option_map f) ms (altered n f ms) (find_altered ms) (rising_altered ms)

  -- ---- one member more
  module _ (new : Member M) where
    pub count_placed : (p : Member M → Bool) (ms : List (Member M)) → count_by p (placed new ms) ≡ count_by p ms + cond (p new) 1 0
    count_placed p [] = omega (arith, count_cons p new [])
    count_placed p (o ∷ ms) = grind (arith, nat_tests, count_cons p new (o ∷ ms), count_cons p o (placed new ms), count_cons p o ms, count_placed p ms)

    pub length_placed : (ms : List (Member M)) → length (placed new ms) ≡ length ms + 1
    length_placed ms = omega (arith, count_placed (λ _. true) ms, count_all ms, count_all (placed new ms))

    -- if no member has its number
    find_placed : (ms : List (Member M)) → find new.number ms ≡ None → (k : ℕ) → find k (placed new ms) ≡ cond (new.number == k) (Some new) (find k ms)
    find_placed [] fresh k = refl
    find_placed (o ∷ ms) fresh k = grind (arith, nat_tests, fresh, λ (h : find new.number ms ≡ None). find_placed ms h k)

    rising_placed : (ms : List (Member M)) → find new.number ms ≡ None → IsRising ms → IsRising (placed new ms)
    rising_placed [] fresh r = (All-nil (λ (q : Member M). new.number < q.number), r)
    rising_placed (o ∷ ms) fresh r =
        let out : ((o.number == new.number) ≡ false) × (find new.number ms ≡ None) = grind (arith, nat_tests, fresh) in
        let rest = rising_placed ms out.1 r.1 in
        let P : Member M → Type 0 = λ q. new.number < q.number in
        cond_both (nat_lt new.number o.number) (new ∷ o ∷ ms) (o ∷ placed new ms) IsRising
        (λ t. let lt : new.number < o.number = grind (arith, nat_tests, t) in
        (All-cons P o ms lt (All-weaker (λ (q : Member M). o.number < q.number) P (λ q h. omega (arith, h, lt)) ms r.0), r))
        (λ t. (still_above o.number ms (placed new ms) r.0 rest (λ k le none. grind (arith, nat_tests, t, out.0, le, none, find_placed ms out.1 k)), rest))

    pub found_placed : (ms : List (Member M)) → find new.number ms ≡ None → IsFoundAfter new.number (λ _. Some new) ms (placed new ms)
    found_placed ms fresh = found_by new.number (λ _. Some new) ms (placed new ms) (find_placed ms fresh) (rising_placed ms fresh)

  -- ---- one member less
  module _ (n : ℕ) where
    pub count_except : (p : Member M → Bool) (ms : List (Member M)) (m : Member M) → find n ms ≡ Some m → count_by p (except n ms) + cond (p m) 1 0 ≡ count_by p ms
    count_except p [] m e = cc
    count_except p (o ∷ ms) m e = grind (arith, nat_tests, e, count_cons p o (except n ms), count_cons p o ms, count_except p ms m)

    pub length_except : (ms : List (Member M)) (m : Member M) → find n ms ≡ Some m → length (except n ms) + 1 ≡ length ms
    length_except ms m e = omega (arith, count_except (λ _. true) ms m e, count_all ms, count_all (except n ms))

    find_except : (ms : List (Member M)) → IsRising ms → (k : ℕ) → find k (except n ms) ≡ cond (n == k) None (find k ms)
    find_except [] r k = grind (arith, nat_tests)
    find_except (o ∷ ms) r k = grind (arith, nat_tests, none_above o.number ms r.0, find_except ms r.1 k)

    rising_except : (ms : List (Member M)) → IsRising ms → IsRising (except n ms)
    rising_except [] r = r
    rising_except (o ∷ ms) r =
        let rest = rising_except ms r.1 in
        cond_both (o.number == n) ms (o ∷ except n ms) IsRising (λ _. r.1)
        (λ _. (still_above o.number ms (except n ms) r.0 rest (λ k _ none. grind (arith, nat_tests, none, find_except ms r.1 k)), rest))

    pub found_except : (ms : List (Member M)) → IsRising ms → IsFoundAfter n (λ _. None) ms (except n ms)
    found_except ms r = found_by n (λ _. None) ms (except n ms) (find_except ms r) (rising_except ms)

  -- ---- each member altered
  module _ (f : Member M → Member M) (num : (m : Member M) → (f m).number ≡ m.number) where
    pub find_map : (n : ℕ) (ms : List (Member M)) → find n (map f ms) ≡ option_map f (find n ms)
    find_map n [] = refl
    find_map n (m ∷ ms) = grind (arith, nat_tests, num m, find_map n ms)

    pub rising_map : (ms : List (Member M)) → IsRising ms → IsRising (map f ms)
    rising_map [] r = r
    rising_map (m ∷ ms) r =
        let rest = rising_map ms r.1 in
        let above = still_above m.number ms (map f ms) r.0 rest (λ k _ none. find_map k ms ∙ ap (option_map f) none) in
        (subst (λ k. All (λ (o : Member M). k < o.number) (map f ms)) (sym (num m)) above, rest)
