-- The order of the ready members, and of those inside, after an edit of the list.
use Rattle.std.proofs.Common.{◌≡◌, ◌≢◌, ◌<◌, ◌≤◌, ◌+◌, ◌==◌, ◌&&◌, ℕ, Bool, true, false, cond, List, [], ◌∷◌, ◌++◌, length, Option, Some, None, IsSomeAnd, IsTrue, refl, sym, ap, subst, ◌∙◌, inl, inr, arith}
use Rattle.ame_pool.proofs.Words.{cases_Bool, Member, MemberStanding, IsRising, IsFoundAfter, is_ready, find, altered, placed, except, skipping, front, IsOrderOf, AreInOrder, is_inside_at, count_by, filter, nat_tests, cases_eq, length-append, append-nil, filter_agree, filter-append, sum_by_push, count_by-le-length}
use Rattle.ame_pool.proofs.MemberLemmas.{count_cons, count_all, none_above, find_number, count_altered, length_altered, count_placed, count_except}

module _ {M : Type 0} where
  -- the ready member with a number, counted
  abbrev ready_of : Option (Member M) → ℕ
  ready_of None = 0
  ready_of (Some m) = cond (is_ready m) 1 0

  counted_at : (n : ℕ) (ms : List (Member M)) → IsRising ms → count_by (λ m. is_ready m && (m.number == n)) ms ≡ ready_of (find n ms)
  counted_at n [] r = refl
  counted_at n (m ∷ ms) r =
      grind (arith, nat_tests, count_cons (λ m. is_ready m && (m.number == n)) m ms, counted_at n ms r.1, none_above m.number ms r.0, cases_Bool (is_ready m))

-- ---- lists of numbers
count_push : (p : ℕ → Bool) (xs : List ℕ) (n : ℕ) → count_by p (xs ++ n ∷ []) ≡ count_by p xs + cond (p n) 1 0
count_push p xs n = sum_by_push (λ k. cond (p k) 1 0) xs n

-- a list that has a number loses it once
count_skipping : (p : ℕ → Bool) (n : ℕ) (xs : List ℕ) → 1 ≤ count_by (λ k. k == n) xs
    → count_by p (skipping n xs) + cond (p n) 1 0 ≡ count_by p xs
count_skipping p n [] has = absurd (omega arith)
count_skipping p n (x ∷ xs) has =
    grind (arith, nat_tests, has, count_cons p x xs, count_cons p x (skipping n xs), count_cons (λ k. k == n) x xs, count_skipping p n xs)

-- a filter and a number more
pub filter_push : (p : ℕ → Bool) (xs : List ℕ) (n : ℕ) (b : Bool) → p n ≡ b → cond b (filter p xs ++ n ∷ []) (filter p xs) ≡ filter p (xs ++ n ∷ [])
filter_push p xs n true e = sym (filter-append p xs (n ∷ []) ∙ ap (λ b. filter p xs ++ cond b (n ∷ []) []) e)
filter_push p xs n false e = sym (filter-append p xs (n ∷ []) ∙ ap (λ b. filter p xs ++ cond b (n ∷ []) []) e ∙ append-nil (filter p xs))

-- a filter and a number less
pub filter_skipping : (p : ℕ → Bool) (n : ℕ) (xs : List ℕ) (b : Bool) → p n ≡ b → cond b (skipping n (filter p xs)) (filter p xs) ≡ filter p (skipping n xs)
filter_skipping p n [] b e = grind (arith, cases_Bool b)
filter_skipping p n (x ∷ xs) b e = grind (arith, nat_tests, cases_Bool (p x), cases_Bool b, e, filter_skipping p n xs b e)

-- two tests that agree but at a number that the list lacks
filter_but : (p q : ℕ → Bool) (n : ℕ) → ((k : ℕ) → k ≢ n → p k ≡ q k) → (xs : List ℕ) → count_by (λ k. k == n) xs ≡ 0 → filter p xs ≡ filter q xs
filter_but p q n agree [] none = refl
filter_but p q n agree (x ∷ xs) none =
    let c = count_cons (λ k. k == n) x xs in
    let out : x ≢ n = λ same. grind (arith, nat_tests, c, none, same) in
    grind (arith, agree x out, filter_but p q n agree xs (grind (arith, nat_tests, c, none)))

module _ {M : Type 0} where
  ready_few : (o : Option (Member M)) → ready_of o ≤ 1
  ready_few None = omega arith
  ready_few (Some m) = grind (arith, cases_Bool (is_ready m))

  ready_some : (o : Option (Member M)) → 1 ≤ ready_of o → IsSomeAnd o (λ m. IsTrue (is_ready m))
  ready_some None some = absurd (omega (arith, some))
  ready_some (Some m) some = grind (arith, cases_Bool (is_ready m), some)

  -- the order has each ready member once, and no other one
  module _ (ms : List (Member M)) (order : List ℕ) (s : AreInOrder ms order) (n : ℕ) where
    at_number : count_by (λ k. k == n) order ≡ ready_of (find n ms)
    at_number = s.ordered (λ k. k == n) ∙ counted_at n ms s.rising

    pub order_once : count_by (λ k. k == n) order ≤ 1
    order_once = omega (arith, at_number, ready_few (find n ms))

    pub order_ready : 1 ≤ count_by (λ k. k == n) order → IsSomeAnd (find n ms) (λ m. IsTrue (is_ready m))
    order_ready some = ready_some (find n ms) (omega (arith, some, at_number))

    pub absent : find n ms ≡ None → count_by (λ k. k == n) order ≡ 0
    absent none = at_number ∙ ap ready_of none

    pub unready : (m : Member M) → find n ms ≡ Some m → is_ready m ≡ false → count_by (λ k. k == n) order ≡ 0
    unready m found was = at_number ∙ ap ready_of found ∙ rw was refl

  -- the oldest one is ready
  pub front_ready : (ms : List (Member M)) (order : List ℕ) → AreInOrder ms order → (n : ℕ) → front order ≡ Some n → IsSomeAnd (find n ms) (λ m. IsTrue (is_ready m))
  front_ready ms [] s n e = cc
  front_ready ms (x ∷ xs) s n e = let same : x ≡ n = cc in order_ready ms (x ∷ xs) s n (grind (arith, nat_tests, same, count_cons (λ k. k == n) x xs))

  -- the order is no longer than the list
  pub order_short : (ms : List (Member M)) (order : List ℕ) → IsOrderOf ms order → length order ≤ length ms
  order_short ms order h = omega (arith, h (λ _. true), count_all order, count_by-le-length (λ m. is_ready m && true) ms)

  module _ (ms : List (Member M)) (order : List ℕ) (h : IsOrderOf ms order) where
    -- ---- one member changed
    module _ (n : ℕ) (f : Member M → Member M) (num : (m : Member M) → (f m).number ≡ m.number) (m : Member M) (found : find n ms ≡ Some m) where
      at : m.number ≡ n
      at = find_number n ms m found

      -- how many ready ones pass a test: a is its readiness before and b after
      moved : (a b : Bool) → is_ready m ≡ a → is_ready (f m) ≡ b → (p : ℕ → Bool)
          → count_by (λ m. is_ready m && p m.number) (altered n f ms) + cond (a && p n) 1 0 ≡ count_by p order + cond (b && p n) 1 0
      moved a b was is p =
          let r : Member M → Bool = λ m. is_ready m && p m.number in
          let before : ◌≡◌ {A = ℕ} (cond (r m) 1 0) (cond (a && p n) 1 0) = rw (was, at) refl in
          let after : ◌≡◌ {A = ℕ} (cond (r (f m)) 1 0) (cond (b && p n) 1 0) = rw (is, num m, at) refl in
          omega (arith, h p, count_altered n f r ms m found, before, after)

      -- the readiness stays
      pub ordered_same : is_ready (f m) ≡ is_ready m → IsOrderOf (altered n f ms) order
      ordered_same same p = omega (arith, moved (is_ready m) (is_ready m) refl same p)

      -- it is the youngest ready one
      pub ordered_readied : is_ready m ≡ false → is_ready (f m) ≡ true → IsOrderOf (altered n f ms) (order ++ n ∷ [])
      ordered_readied was is p = omega (arith, moved false true was is p, count_push p order n)

      -- it is no longer ready
      pub ordered_held : is_ready m ≡ true → is_ready (f m) ≡ false → IsOrderOf (altered n f ms) (skipping n order)
      ordered_held was is p =
          let one : ◌≡◌ {A = ℕ} (cond (n == n) 1 0) 1 = grind (arith, nat_tests) in
          omega (arith, moved true false was is p, count_skipping p n order (omega (arith, moved true false was is (λ k. k == n), one)))

    -- a member that isn't ready leaves a place in the order
    pub order_shorter : (n : ℕ) (m : Member M) → find n ms ≡ Some m → is_ready m ≡ false → length order < length ms
    order_shorter n m found was =
        let f : Member M → Member M = λ m. record m { standing = MemberStanding.Ready } in
        let longer = ordered_readied n f (λ _. refl) m found was refl in
        let short = order_short (altered n f ms) (order ++ n ∷ []) longer in
        omega (arith, short, length_altered n f ms, length-append order (n ∷ []))

    -- a member joins, the youngest ready one
    pub ordered_placed : (new : Member M) → is_ready new ≡ true → IsOrderOf (placed new ms) (order ++ new.number ∷ [])
    ordered_placed new is p =
        let r : Member M → Bool = λ m. is_ready m && p m.number in
        let one : ◌≡◌ {A = ℕ} (cond (r new) 1 0) (cond (p new.number) 1 0) = rw is refl in
        omega (arith, h p, count_placed new r ms, one, count_push p order new.number)

    -- a member that isn't ready leaves
    pub ordered_except : (n : ℕ) (m : Member M) → find n ms ≡ Some m → is_ready m ≡ false → IsOrderOf (except n ms) order
    ordered_except n m found was p =
        let r : Member M → Bool = λ m. is_ready m && p m.number in
        let none : ◌≡◌ {A = ℕ} (cond (r m) 1 0) 0 = rw was refl in
        omega (arith, h p, count_except n r ms m found, none)

  -- ---- who stands inside
  abbrev inside_of : Option (Member M) → Bool
  inside_of o = elim o as (λ _. Bool) [ None ↦ false | Some m ↦ m.inside ]

  pub inside_at : (n : ℕ) (ms : List (Member M)) (m : Member M) → find n ms ≡ Some m → is_inside_at ms n ≡ m.inside
  inside_at n ms m found = ap inside_of found

  module _ {n : ℕ} {f : Option (Member M) → Option (Member M)} {old new : List (Member M)} (edit : IsFoundAfter n f old new) where
    -- the number is at its place as before
    pub inside_same : is_inside_at old n ≡ is_inside_at new n → (order : List ℕ) → filter (is_inside_at old) order ≡ filter (is_inside_at new) order
    inside_same same order =
        filter_agree (is_inside_at old) (is_inside_at new) (λ k. elim (cases_eq k n) [
          | inl at ↦ subst (λ j. is_inside_at old j ≡ is_inside_at new j) (sym at) same
          | inr other ↦ ap inside_of (sym (edit.others k other))
        ]) order

    -- it isn't in the order
    pub inside_but : (order : List ℕ) → count_by (λ k. k == n) order ≡ 0 → filter (is_inside_at old) order ≡ filter (is_inside_at new) order
    inside_but order none = filter_but (is_inside_at old) (is_inside_at new) n (λ k other. ap inside_of (sym (edit.others k other))) order none
