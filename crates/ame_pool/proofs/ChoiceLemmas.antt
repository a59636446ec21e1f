-- The first of the order and the counts decide which member begins.
use Rattle.std.proofs.Common.{◌≡◌, ◌<◌, ◌≤◌, ◌+◌, ◌==◌, ◌&&◌, ℕ, Bool, true, false, cond, not, List, [], ◌∷◌, length, Some, None, IsSomeAnd, IsTrue, refl, sym, ap, ◌∙◌, arith, ◌++◌, Option}
use Rattle.ame_pool.proofs.Words.{cases_Bool, Member, Oldest, Counts, find, is_ready, is_busy, is_parked, Roster, Register, is_protected, is_exhausted, is_exhausted_protected, some_busy, may_begin_beside, may_begin, first_to_begin, members_of, oldest, oldest_or_wait, Queues, front, idle, is_inside_at, IsKept, ◌||◌, nat_lt, filter, list_any, list_all, count_by, nat_tests, count_by-le-length, list_any-append}
use Rattle.ame_pool.proofs.MemberLemmas.{count_cons, find_number, which}
use Rattle.ame_pool.proofs.CountLemmas.{kinds}
use Rattle.ame_pool.proofs.OrderLemmas.{order_ready}

-- ---- truth values: i stands inside, w is exhausted; p and b stand for a protected and an exhausted one that are
-- busy, o for an exhausted one that is older
-- while a protected one is busy, and an exhausted one is busy or older, none begins but from inside
blocked : (i w p b o : Bool) → p ≡ true → (b || o) ≡ true → cond i true (cond w (not p) (not b && not o)) ≡ i
blocked i w p b o hp hb = grind (arith, hp, hb, cases_Bool i, cases_Bool w, cases_Bool b)

-- the first one may not begin only if a protected one is busy, and if it is exhausted or an exhausted one is busy
first_waits : (i w p b : Bool) → (b ≡ true → p ≡ true) → cond i true (cond w (not p) (not b && not false)) ≡ false
    → (i ≡ false) × (p ≡ true) × ((b || ((not i && w) || false)) ≡ true)
first_waits i w p b up h = (
  grind (arith, up, h, cases_Bool i, cases_Bool w, cases_Bool b),
  grind (arith, up, h, cases_Bool i, cases_Bool w, cases_Bool p, cases_Bool b),
  grind (arith, up, h, cases_Bool i, cases_Bool w, cases_Bool b),
)

or_left : (b o x : Bool) → (b || o) ≡ true → (b || (o || x)) ≡ true
or_left b o x h = grind (arith, h, cases_Bool b, cases_Bool o)

module _ {M : Type 0} where
  -- who is exhausted and protected is protected
  exhausted_is_protected : (ms : List (Member M)) → some_busy is_exhausted_protected ms ≡ true → some_busy is_protected ms ≡ true
  exhausted_is_protected [] h = h
  exhausted_is_protected (m ∷ ms) h = grind (arith, h, exhausted_is_protected ms, cases_Bool (is_busy m), cases_Bool m.inside)

  -- the number of the first one inside
  abbrev first_inside : List (Member M) → Option ℕ
  first_inside [] = None
  first_inside (m ∷ ms) = cond m.inside (Some m.number) (first_inside ms)

  module _ (ms : List (Member M)) where
    -- once a protected one may not begin, the first one inside begins
    inside_begins : some_busy is_protected ms ≡ true → (ready older : List (Member M))
        → (some_busy is_exhausted_protected ms || list_any is_exhausted_protected older) ≡ true
        → first_to_begin ms older ready ≡ first_inside ready
    inside_begins busy [] older exhausted = refl
    inside_begins busy (m ∷ ready) older exhausted =
        let may : may_begin ms older m ≡ m.inside
        = blocked m.inside (is_exhausted m) (some_busy is_protected ms) (some_busy is_exhausted_protected ms) (list_any is_exhausted_protected older) busy exhausted in
        let still : (some_busy is_exhausted_protected ms || list_any is_exhausted_protected (older ++ m ∷ [])) ≡ true
        = rw (list_any-append is_exhausted_protected older (m ∷ []))
        (or_left (some_busy is_exhausted_protected ms) (list_any is_exhausted_protected older) (is_exhausted_protected m || false) exhausted) in
        ap (λ b. cond b (Some m.number) (first_to_begin ms (older ++ m ∷ []) ready)) may
        ∙ ap (λ o. cond m.inside (Some m.number) o) (inside_begins busy ready (older ++ m ∷ []) still)

    inside_front : (order : List ℕ) → first_inside (members_of ms order) ≡ front (filter (is_inside_at ms) order)
    inside_front [] = refl
    inside_front (n ∷ ns) = grind (arith, which (find n ms), find_number n ms, inside_front ns)

    -- the oldest ready member begins, or else the oldest one inside
    pub front_begins : (n : ℕ) (ns : List ℕ) (m : Member M) → find n ms ≡ Some m
        → first_to_begin ms [] (members_of ms (n ∷ ns)) ≡ cond (may_begin ms [] m) (Some n) (front (filter (is_inside_at ms) (n ∷ ns)))
    front_begins n ns m f =
        let split : members_of ms (n ∷ ns) ≡ m ∷ members_of ms ns = rw (f, members_of) refl in
        ap (first_to_begin ms []) split
        ∙ elim (may_begin ms [] m) as (λ b. may_begin ms [] m ≡ b → cond b (Some m.number) (first_to_begin ms (m ∷ []) (members_of ms ns))
        ≡ cond b (Some n) (front (filter (is_inside_at ms) (n ∷ ns)))) [
          | true ↦ λ e. ap Some (find_number n ms m f)
          | false ↦ λ e.
              let w = first_waits m.inside (is_exhausted m) (some_busy is_protected ms) (some_busy is_exhausted_protected ms) (exhausted_is_protected ms) e in
              let out : is_inside_at ms n ≡ false = rw (f, is_inside_at) w.0 in
              let same : filter (is_inside_at ms) (n ∷ ns) ≡ filter (is_inside_at ms) ns = rw out refl in
              inside_begins w.1 (members_of ms ns) (m ∷ []) w.2 ∙ inside_front ns ∙ ap front (sym same)
        ] refl

  -- if neither a protected nor an exhausted one is busy, the first one may begin
  pub all_begin : (p e : Bool) → (not p && not e) ≡ true → (m : Member M) → may_begin_beside p e false m ≡ true
  all_begin p e h m = grind (arith, h, cases_Bool p, cases_Bool e, cases_Bool m.inside, cases_Bool (is_exhausted m))

-- ---- the first of a list
front_none : (ns : List ℕ) → front ns ≡ None → ns ≡ []
front_none [] e = refl
front_none (n ∷ ns) e = cc

front_some : (ns : List ℕ) (n : ℕ) → front ns ≡ Some n → (rest : List ℕ) × (ns ≡ n ∷ rest)
front_some [] n e = absurd cc
front_some (k ∷ ns) n e = (ns, cc)

-- ---- how many there are
any_counts : {X : Type 0} (p : X → Bool) (xs : List X) → list_any p xs ≡ nat_lt 0 (count_by p xs)
any_counts p [] = refl
any_counts p (x ∷ xs) = grind (arith, nat_tests, count_cons p x xs, any_counts p xs)

all_counts : {X : Type 0} (p : X → Bool) (xs : List X) → list_all p xs ≡ (count_by p xs == length xs)
all_counts p [] = refl
all_counts p (x ∷ xs) = grind (arith, nat_tests, count_cons p x xs, count_by-le-length p xs, all_counts p xs)

kind_counts : {X : Type 0} (p q : X → Bool) (xs : List X) → count_by (λ x. p x && q x) xs ≤ count_by p xs
kind_counts p q [] = omega arith
kind_counts p q (x ∷ xs) = grind (arith, nat_tests, count_cons p x xs, count_cons (λ x. p x && q x) x xs, kind_counts p q xs)

module _ {M : Type 0} where
  -- the choice by counts
  oldest_counts : (ms : List (Member M)) (order : List ℕ) (room : ℕ) → oldest (record { members = ms; order = order; room = room })
      ≡ cond (length ms == 0) Oldest.Empty (cond (count_by is_parked ms == length ms) Oldest.Parked (oldest_or_wait (first_to_begin ms [] (members_of ms order))))
  oldest_counts [] order room = refl
  oldest_counts (m ∷ ms) order room =
      let some : (length (m ∷ ms) == 0) ≡ false = grind (arith, nat_tests) in
      rw some (ap (λ b. cond b Oldest.Parked (oldest_or_wait (first_to_begin (m ∷ ms) [] (members_of (m ∷ ms) order)))) (all_counts is_parked (m ∷ ms)))

  module _ {reg : Register M} {q : Queues} {c : Counts} (h : IsKept reg q c) where
    abbrev roster : Roster M
    roster = record { members = reg.list; order = q.order; room = reg.room }

    -- no member is ready
    pub idle_is : front q.order ≡ None → oldest roster ≡ idle c
    idle_is e =
        let at = front_none q.order e in
        let law = oldest_counts reg.list q.order reg.room in
        let wait = ap (λ ns. oldest_or_wait (first_to_begin reg.list [] (members_of reg.list ns))) at in
        let none = h.sound.ordered (λ _. true) ∙ refl in
        let empty = ap (count_by (λ _. true)) at in
        let busy = h.counted.busy in
        let parked = h.counted.parked in
        law ∙ grind (arith, nat_tests, wait, none, empty, busy, parked, kinds reg.list)

    -- some member is busy if none is ready, and the answer is to wait
    pub idle_waits : idle c ≡ Oldest.Wait → list_any is_busy reg.list ≡ true
    idle_waits e = any_counts is_busy reg.list ∙ grind (arith, nat_tests, e, h.counted.busy, cases_Bool (nat_lt 0 c.busy), cases_Bool (nat_lt 0 c.parked))

    -- and if the first one may not begin
    pub held_up : (m : Member M) → may_begin_beside (nat_lt 0 c.protected) (nat_lt 0 c.exhausted) false m ≡ false → list_any is_busy reg.list ≡ true
    held_up m e =
        let some : 0 < c.protected + c.exhausted = grind (arith, nat_tests, e, cases_Bool m.inside, cases_Bool (is_exhausted m)) in
        any_counts is_busy reg.list ∙ grind (arith, nat_tests, some, h.counted.protected, h.counted.exhausted, kind_counts is_busy is_protected reg.list, kind_counts is_busy is_exhausted_protected reg.list)

    -- the oldest one inside is ready
    pub inside_ready : (n : ℕ) → front q.inside ≡ Some n → IsSomeAnd (find n reg.list) (λ m. IsTrue (is_ready m))
    inside_ready n e = order_ready reg.list q.order h.sound n (front_counts (is_inside_at reg.list) n q.order (ap front (sym h.inside) ∙ e))
      where
        front_counts : (p : ℕ → Bool) (n : ℕ) (xs : List ℕ) → front (filter p xs) ≡ Some n → 1 ≤ count_by (λ k. k == n) xs
        front_counts p n [] e = cc
        front_counts p n (x ∷ xs) e = grind (arith, nat_tests, cases_Bool (p x), e, count_cons (λ k. k == n) x xs, front_counts p n xs)

    module _ (n : ℕ) (first : front q.order ≡ Some n) (m : Member M) (found : find n reg.list ≡ Some m) where
      flags : may_begin reg.list [] m ≡ may_begin_beside (nat_lt 0 c.protected) (nat_lt 0 c.exhausted) false m
      flags =
          let p : some_busy is_protected reg.list ≡ nat_lt 0 c.protected = any_counts (λ m. is_busy m && is_protected m) reg.list ∙ ap (nat_lt 0) (sym h.counted.protected) in
          let w : some_busy is_exhausted_protected reg.list ≡ nat_lt 0 c.exhausted = any_counts (λ m. is_busy m && is_exhausted_protected m) reg.list ∙ ap (nat_lt 0) (sym h.counted.exhausted) in
          ap (λ b. may_begin_beside b (some_busy is_exhausted_protected reg.list) false m) p ∙ ap (λ b. may_begin_beside (nat_lt 0 c.protected) b false m) w

      -- the first one decides
      pub front_is : (s : Roster M) → roster ≡ s → (b : Bool) → b ≡ may_begin_beside (nat_lt 0 c.protected) (nat_lt 0 c.exhausted) false m
          → oldest_or_wait (cond b (Some n) (front q.inside)) ≡ oldest s
      front_is s view b may =
          let rest = front_some q.order n first in
          let split = rest.1 in
          let some = h.sound.ordered (λ _. true) in
          let count = ap (count_by (λ _. true)) split ∙ count_cons (λ _. true) n rest.0 in
          let one : ◌≡◌ {A = ℕ} (cond true 1 0) 1 = refl in
          let back : front (filter (is_inside_at reg.list) (n ∷ rest.0)) ≡ front q.inside
          = ap (λ l. front (filter (is_inside_at reg.list) l)) (sym split) ∙ ap front (sym h.inside) in
          let chosen : oldest roster ≡ oldest_or_wait (first_to_begin reg.list [] (members_of reg.list q.order))
          = oldest_counts reg.list q.order reg.room ∙ grind (arith, nat_tests, some, count, one, kinds reg.list) in
          sym (chosen ∙ ap (λ l. oldest_or_wait (first_to_begin reg.list [] (members_of reg.list l))) split
          ∙ ap oldest_or_wait (front_begins reg.list n rest.0 m found)
          ∙ ap (λ o. oldest_or_wait (cond (may_begin reg.list [] m) (Some n) o)) back
          ∙ ap (λ b. oldest_or_wait (cond b (Some n) (front q.inside))) (flags ∙ sym may)) ∙ ap oldest view
