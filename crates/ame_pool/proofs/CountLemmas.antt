-- The counts after an edit of the list.
use Rattle.std.proofs.Common.{◌≡◌, ◌+◌, ◌&&◌, ℕ, true, List, [], ◌∷◌, length, Some, refl, ap, arith}
use Rattle.ame_pool.proofs.Words.{Member, MemberStanding, Counts, is_ready, is_busy, is_parked, find, altered, placed, except, is_busy_protected, is_busy_exhausted, counted, CountsIn, AreCounted, count_by}
use Rattle.ame_pool.proofs.MemberLemmas.{count_cons, count_altered, count_placed, count_except, standing_is}

module _ {M : Type 0} where
  -- the kinds make up the list
  pub kinds : (ms : List (Member M)) → count_by (λ m. is_ready m && true) ms + (count_by is_busy ms + count_by is_parked ms) ≡ length ms
  kinds [] = refl
  kinds (m ∷ ms) =
      grind (arith, standing_is m.standing, kinds ms, count_cons (λ (m : Member M). is_ready m && true) m ms, count_cons (λ (m : Member M). is_busy m) m ms, count_cons (λ (m : Member M). is_parked m) m ms)

  -- a ready member is in no count
  pub ready_counted : (m : Member M) → is_ready m ≡ true → (c : Counts) → c ≡ counted m c
  ready_counted m e c =
      let ready : m.standing ≡ MemberStanding.Ready = grind (arith, standing_is m.standing, e) in
      let z : (k : ℕ) → k + 0 ≡ k = λ k. omega arith in
      rw (ready, z c.busy, z c.protected, z c.exhausted, z c.parked) refl

  module _ (ms : List (Member M)) (c : Counts) (h : AreCounted ms c) where
    -- ---- one member more
    pub counted_placed : (new : Member M) → is_ready new ≡ true → AreCounted (placed new ms) c
    counted_placed new e =
        let none = ready_counted new e c in
        record {
          busy = omega (arith, h.busy, count_placed new is_busy ms, ap (λ (x : Counts). x.busy) none);
          protected = omega (arith, h.protected, count_placed new is_busy_protected ms, ap (λ (x : Counts). x.protected) none);
          exhausted = omega (arith, h.exhausted, count_placed new is_busy_exhausted ms, ap (λ (x : Counts). x.exhausted) none);
          parked = omega (arith, h.parked, count_placed new is_parked ms, ap (λ (x : Counts). x.parked) none);
        }

    module _ (n : ℕ) (m : Member M) (found : find n ms ≡ Some m) where
      -- ---- one member altered
      pub counted_altered : (f : Member M → Member M) (d c' : Counts) → c ≡ counted m d → c' ≡ counted (f m) d → AreCounted (altered n f ms) c'
      counted_altered f d c' a b = record {
        busy = omega (arith, h.busy, ap (λ (x : Counts). x.busy) a, ap (λ (x : Counts). x.busy) b, count_altered n f is_busy ms m found);
        protected = omega (arith, h.protected, ap (λ (x : Counts). x.protected) a, ap (λ (x : Counts). x.protected) b, count_altered n f is_busy_protected ms m found);
        exhausted = omega (arith, h.exhausted, ap (λ (x : Counts). x.exhausted) a, ap (λ (x : Counts). x.exhausted) b, count_altered n f is_busy_exhausted ms m found);
        parked = omega (arith, h.parked, ap (λ (x : Counts). x.parked) a, ap (λ (x : Counts). x.parked) b, count_altered n f is_parked ms m found);
      }

      -- ---- one member less
      pub counted_except : (c' : Counts) → c ≡ counted m c' → AreCounted (except n ms) c'
      counted_except c' a = record {
        busy = omega (arith, h.busy, ap (λ (x : Counts). x.busy) a, count_except n is_busy ms m found);
        protected = omega (arith, h.protected, ap (λ (x : Counts). x.protected) a, count_except n is_busy_protected ms m found);
        exhausted = omega (arith, h.exhausted, ap (λ (x : Counts). x.exhausted) a, count_except n is_busy_exhausted ms m found);
        parked = omega (arith, h.parked, ap (λ (x : Counts). x.parked) a, count_except n is_parked ms m found);
      }

      -- a member of the list is in the counts
      pub counts_in : CountsIn m c
      counts_in = record {
        busy = omega (arith, h.busy, count_except n is_busy ms m found);
        protected = omega (arith, h.protected, count_except n is_busy_protected ms m found);
        exhausted = omega (arith, h.exhausted, count_except n is_busy_exhausted ms m found);
        parked = omega (arith, h.parked, count_except n is_parked ms m found);
      }
