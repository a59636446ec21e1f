-- The changes that a write to a location makes.
use Rattle.std.proofs.Common.{◌==◌, ◌≡◌, ◌<◌, ◌≤◌, ℕ, Bool, true, false, cond, List, [], ◌∷◌, ◌++◌, map, Option, Some, None, IsSomeAnd, IsTrue, refl, sym, ap, ◌∙◌, arith}
use Rattle.std.specs.List.{All}
use Rattle.ame_pool.proofs.Words.{cases_Bool, Member, MemberStanding, Watch, IsRising, find, altered, untouched, lists, waits_for, has, touched_by, stirred, stirred_by, is_waiting_for, is_woken_by, woken_by, Roster, IsAt, woken, is_watching, is_woken_at, stirred_at, IsWatched, false≢true, count_by, BTreeSet, nat_tests, append-nil, append_assoc, All-head, All-tail}
use Rattle.ame_pool.proofs.KeptLemmas.{IsOpen, opened}
use Rattle.ame_pool.proofs.MemberLemmas.{count_altered, find_number, find_passes, all_found, standing_is}

module _ (l : ℕ) where
  -- ---- a standing and a write
  not_waiting : (s : MemberStanding) → has l (untouched s) ≡ false → is_waiting_for l s ≡ false
  not_waiting s e = grind (arith, standing_is s, e)

  watch_once : (w : Watch) (b : Bool) → w.touched ≡ b → has l (cond b [] w.locs) ≡ false → touched_by l w ≡ w
  watch_once w true t e =
      let same : record w { touched = true } ≡ w = ap (λ (b : Bool). let r : Watch = record { locs = w.locs; touched = b } in r) (sym t) in
      elim (has l w.locs) as (λ b. cond b (record w { touched = true }) w ≡ w) [ true ↦ same | false ↦ refl ]
  watch_once w false t e = rw e refl

  stirred_once : (s : MemberStanding) → has l (untouched s) ≡ false → stirred l s ≡ s
  stirred_once MemberStanding.Ready e = refl
  stirred_once (MemberStanding.Busy None) e = refl
  stirred_once (MemberStanding.Busy (Some w)) e = ap (λ (q : Watch). MemberStanding.Busy (Some q)) (watch_once w w.touched refl e)
  stirred_once (MemberStanding.Parked locs) e = rw e refl

  pub stirred_clears : (s : MemberStanding) → has l (untouched s) ≡ true → untouched (stirred l s) ≡ []
  stirred_clears s e = grind (arith, standing_is s, e)

  stirred_twice : (s : MemberStanding) → has l (untouched s) ≡ true → stirred l (stirred l s) ≡ stirred l s
  stirred_twice s e = stirred_once (stirred l s) (ap (has l) (stirred_clears s e))

module _ {M : Type 0} (l : ℕ) where
  -- ---- one turn
  map_altered : (n : ℕ) (ms : List (Member M)) (m : Member M) → find n ms ≡ Some m → is_watching l m ≡ true
      → map (stirred_by l) (altered n (stirred_by l) ms) ≡ map (stirred_by l) ms
  map_altered n [] m found watched = refl
  map_altered n (o ∷ ms) m found watched =
      let twice : stirred_by l (stirred_by l m) ≡ stirred_by l m = ap (λ (s : MemberStanding). let x : Member M = record m { standing = s } in x) (stirred_twice l m.standing watched) in
      grind (arith, nat_tests, found, twice, map_altered n ms m)

  woken_cons : (m : Member M) (ms : List (Member M)) → woken_by l (m ∷ ms) ≡ cond (is_woken_by l m) (m.number ∷ []) [] ++ woken_by l ms
  woken_cons m ms = grind (arith, cases_Bool (is_woken_by l m))

  woken_altered : (n : ℕ) (ms : List (Member M)) → IsRising ms → (m : Member M) → find n ms ≡ Some m → is_watching l m ≡ true
      → All (λ o. o.number < n → is_watching l o ≡ false) ms
      → woken_by l ms ≡ cond (is_woken_by l m) (n ∷ []) [] ++ woken_by l (altered n (stirred_by l) ms)
  woken_altered n [] r m found watched before = cc
  woken_altered n (o ∷ ms) r m found watched before =
      elim (o.number == n) as (λ b. (o.number == n) ≡ b → cond b (Some o) (find n ms) ≡ Some m
      → woken_by l (o ∷ ms) ≡ cond (is_woken_by l m) (n ∷ []) [] ++ woken_by l (cond b (stirred_by l o ∷ ms) (o ∷ altered n (stirred_by l) ms))) [
        | true ↦ λ t h.
            let same : o ≡ m = cc in
            let at : o.number ≡ n = grind (arith, nat_tests, t) in
            let calm : is_woken_by l (stirred_by l o) ≡ false
            = not_waiting l (stirred l o.standing) (ap (has l) (stirred_clears l o.standing (ap (is_watching l) same ∙ watched))) in
            let rest : woken_by l (stirred_by l o ∷ ms) ≡ woken_by l ms = rw calm refl in
            woken_cons o ms ∙ grind (arith, same, at, rest)
        | false ↦ λ t h.
            let lt : o.number < n = omega (arith, find_passes (λ (q : Member M). o.number < q.number) n ms r.0 m h, find_number n ms m h) in
            let calm : is_woken_by l o ≡ false
            = not_waiting l o.standing (All-head (λ (q : Member M). q.number < n → is_watching l q ≡ false) o ms before lt) in
            let rest = woken_altered n ms r.1 m h watched (All-tail (λ (q : Member M). q.number < n → is_watching l q ≡ false) o ms before) in
            let both : (xs : List (Member M)) → woken_by l (o ∷ xs) ≡ woken_by l xs = λ xs. rw calm refl in
            both ms ∙ rest ∙ ap (λ q. cond (is_woken_by l m) (n ∷ []) [] ++ q) (sym (both (altered n (stirred_by l) ms)))
      ] refl found

  -- a write that no member watches changes nothing
  calm_all : (ms : List (Member M)) → All (λ m. is_watching l m ≡ false) ms → (map (stirred_by l) ms ≡ ms) × (woken_by l ms ≡ [])
  calm_all [] h = (refl, refl)
  calm_all (m ∷ ms) h =
      let calm = All-head (λ (m : Member M). is_watching l m ≡ false) m ms h in
      let same : stirred_by l m ≡ m = ap (λ (s : MemberStanding). let x : Member M = record m { standing = s } in x) (stirred_once l m.standing calm) in
      let rest = calm_all ms (All-tail (λ (m : Member M). is_watching l m ≡ false) m ms h) in
      (ap (λ q. q ∷ map (stirred_by l) ms) same ∙ ap (λ q. m ∷ q) rest.0, rw (not_waiting l m.standing calm) rest.1)

  -- ---- the loop
  -- how many members the write still changes
  abbrev pub to_stir : List (Member M) → ℕ
  to_stir ms = count_by (is_watching l) ms

  module _ {s : Roster M} {ix : BTreeSet (ℕ × ℕ)} (h : IsWatched s ix) where
    -- who is listed watches
    pub listed_watches : (n : ℕ) → lists ix l n ≡ true → IsAt (is_watching l) n s
    listed_watches n listed = go (find n s.members) (sym (h.indexed l n) ∙ listed)
      where
        go : (o : Option (Member M)) → waits_for l o ≡ true → IsSomeAnd o (λ m. IsTrue (is_watching l m))
        go None e = absurd (false≢true e)
        go (Some m) e = e

    pub waking_all : ((n : ℕ) → lists ix l n ≡ false) → s ≡ woken l s
    waking_all none =
        let calm : All (λ m. is_watching l m ≡ false) s.members
        = all_found (λ m. is_watching l m ≡ false) s.members h.rising (λ n m found. sym (ap (waits_for l) found) ∙ sym (h.indexed l n) ∙ none n) in
        rw ((calm_all s.members calm).0, (calm_all s.members calm).1, append-nil) refl

    module _ (n : ℕ) (listed : lists ix l n ≡ true) (least : (k : ℕ) → lists ix l k ≡ true → n ≤ k) where
      stirring : IsOpen (is_watching l) n s.members
      stirring = opened (is_watching l) n s s refl (listed_watches n listed)

      before : All (λ o. o.number < n → is_watching l o ≡ false) s.members
      before = all_found (λ (o : Member M). o.number < n → is_watching l o ≡ false) s.members h.rising (λ k o at lt.
          grind (arith, cases_Bool (is_watching l o), find_number k s.members o at, least k, h.indexed l k, ap (waits_for l) at, lt))

      pub waking_more : woken l (stirred_at l n s) ≡ woken l s
      waking_more =
          let m = stirring.member in
          let split = woken_altered n s.members h.rising m stirring.found stirring.passes before in
          let at : is_woken_at l n s ≡ is_woken_by l m = ap (λ o. elim o as (λ _. Bool) [ None ↦ false | Some m ↦ is_woken_by l m ]) stirring.found in
          let orders : (stirred_at l n s).order ++ woken_by l (altered n (stirred_by l) s.members) ≡ s.order ++ woken_by l s.members
          = rw (at, append_assoc, ← split) refl in
          rw (orders, map_altered n s.members m stirring.found stirring.passes) refl

      pub waking_fewer : to_stir (altered n (stirred_by l) s.members) < to_stir s.members
      waking_fewer =
          let m = stirring.member in
          let watched : is_watching l m ≡ true = stirring.passes in
          let clear : is_watching l (stirred_by l m) ≡ false = ap (has l) (stirred_clears l m.standing watched) in
          grind (arith, count_altered n (stirred_by l) (is_watching l) s.members m stirring.found, watched, clear)
