-- Members of a pool are rolled back seldom, and this stays so after each call.
use Rattle.std.proofs.Common.{◌≡◌, ℕ, ◌+◌, ◌<◌, ◌≤◌, ◌==◌, Bool, true, false, List, [], ◌∷◌, map, All, Option, Some, None, IsTrue, IsSomeAnd, option_map, eq-eqb, refl, sym, subst, arith}
use Rattle.std.proofs.Math.Nat.{min-le_left}
use Rattle.std.proofs.lemmas.Option.{same_Some}
use Rattle.std.proofs.lemmas.List.Elements.{All-map, All-weaker, All-cons, All-head, All-nil, All-tail}
use Rattle.ame_term.specs.Tree.{Tree}
use Rattle.ame_pool.specs.declared.member.Member.{Member}
use Rattle.ame_pool.specs.Members.{IsRising, find}
use Rattle.ame_pool.specs.Found.{IsFoundAfter}
use Rattle.ame_pool.specs.Standings.{max_rollbacks, rolled}
use Rattle.ame_pool.specs.Waking.{stirred_by}
use Rattle.ame_pool.specs.Roster.{Roster}
use Rattle.ame_pool.specs.Begin.{is_exhausted}
use Rattle.ame_pool.specs.Calls.{IsAt, newcomer, begun, at_home, renewed, noted_on, at_rest, joined, held, home, exchanged, removed, noted, parked, woken}
use Rattle.ame_pool.proofs.MemberLemmas.{all_after, found_altered, found_placed, found_except, find_passes, rising_map}
use Rattle.ame_protocol.specs.Engine.Events.{woken_for}
use Rattle.ame_protocol.specs.Engine.Shown.{shown_member, shown_pool}
use Rattle.ame_protocol.specs.Bounds.Rollbacks.{MayTurnBack}
use Rattle.ame_protocol.specs.Event.Rollbacks.{IsGoodPool}

few-rolled : (b : Bool) (n : ℕ) → n ≤ max_rollbacks → rolled b n ≤ max_rollbacks
few-rolled true n h = min-le_left max_rollbacks (n + 1)
few-rolled false n h = h

module _ {M : Type 0} where
  abbrev IsFew : Member M → Type 0
  IsFew m = m.rollbacks ≤ max_rollbacks

  -- once one member is altered
  module _ (n : ℕ) (f : Member M → Member M) (few : (m : Member M) → IsFew m → IsFew (f m)) (pool new : Roster M)
      (found : IsFoundAfter n (option_map f) pool.members new.members) (good : IsGoodPool pool) where
    few-there : (m : Member M) → option_map f (find n pool.members) ≡ Some m → IsFew m
    few-there m e = by (find n pool.members) refl e
      where
        by : (o : Option (Member M)) → find n pool.members ≡ o → option_map f o ≡ Some m → IsFew m
        by None is h = absurd (let clash : ◌≡◌ {A = Option (Member M)} None (Some m) = h in cc)
        by (Some x) is h = subst IsFew (same_Some (f x) m h) (few x (find_passes IsFew n pool.members good.few x is))

    pub good-altered : IsGoodPool new
    good-altered = record { rising = found.rising good.rising; few = all_after found good.rising IsFew good.few few-there }

  pub good-held : (n : ℕ) (pool : Roster M) → IsGoodPool pool → IsGoodPool (held n pool)
  good-held n pool = good-altered n begun (λ m h. h) pool (held n pool) (found_altered n begun (λ m. refl) pool.members)

  pub good-home : (n : ℕ) (b : Bool) (pool : Roster M) → IsGoodPool pool → IsGoodPool (home n b pool)
  good-home n b pool =
      good-altered n (at_home b) (λ m h. few-rolled b m.rollbacks h) pool (home n b pool) (found_altered n (at_home b) (λ m. refl) pool.members)

  pub good-parked : (n : ℕ) (pool : Roster M) → IsGoodPool pool → IsGoodPool (parked n pool)
  good-parked n pool = good-altered n at_rest (λ m h. h) pool (parked n pool) (found_altered n at_rest (λ m. refl) pool.members)

  pub good-noted : (n : ℕ) (locs : List ℕ) (pool : Roster M) → IsGoodPool pool → IsGoodPool (noted n locs pool)
  good-noted n locs pool =
      good-altered n (noted_on locs) (λ m h. omega arith) pool (noted n locs pool) (found_altered n (noted_on locs) (λ m. refl) pool.members)

  pub good-exchanged : (n : ℕ) (machine : M) (inside : Bool) (pool : Roster M) → IsGoodPool pool → IsGoodPool (exchanged n machine inside pool)
  good-exchanged n machine inside pool =
      good-altered n (renewed machine inside) (λ m h. omega arith) pool (exchanged n machine inside pool)
      (found_altered n (renewed machine inside) (λ m. refl) pool.members)

  pub good-removed : (n : ℕ) (pool : Roster M) → IsGoodPool pool → IsGoodPool (removed n pool)
  good-removed n pool good =
      let found = found_except n pool.members good.rising in
      record { rising = found.rising good.rising; few = all_after found good.rising IsFew good.few (λ m e. absurd (clash m e)) }
    where
      clash : (m : Member M) → ◌≡◌ {A = Option (Member M)} None (Some m) → ⊥
      clash m e = cc

  pub good-joined : (n : ℕ) (machine : M) (inside : Bool) (pool : Roster M) → find n pool.members ≡ None → IsGoodPool pool
      → IsGoodPool (joined (newcomer n machine inside) pool)
  good-joined n machine inside pool fresh good =
      let found = found_placed (newcomer n machine inside) pool.members fresh in
      record {
        rising = found.rising good.rising;
        few = all_after found good.rising IsFew good.few (λ m e. subst IsFew (same_Some (newcomer n machine inside) m e) (omega arith));
      }

  pub good-woken : (l : ℕ) (pool : Roster M) → IsGoodPool pool → IsGoodPool (woken l pool)
  good-woken l pool good = record {
    rising = rising_map (stirred_by l) (λ m. refl) pool.members good.rising;
    few = All-map IsFew (stirred_by l) pool.members (All-weaker IsFew (λ m. IsFew (stirred_by l m)) (λ m h. h) pool.members good.few);
  }

  -- This also holds after waking each member that watches one of some locations.
  pub woken-good : (ls : List ℕ) (pool : Roster M) → IsGoodPool pool → IsGoodPool (woken_for ls pool)
  woken-good [] pool good = good
  woken-good (l ∷ ls) pool good = woken-good ls (woken l pool) (good-woken l pool good)

  -- one that is there and isn't exhausted may be rolled back once more
  pub rolls-on : (n : ℕ) (pool : Roster M) → IsGoodPool pool → (m : Member M) → find n pool.members ≡ Some m → (IsAt is_exhausted n pool → ⊥) → MayTurnBack n pool
  rolls-on n pool good m is fresh =
      subst (λ (o : Option (Member M)). IsSomeAnd o (λ x. x.rollbacks < max_rollbacks)) (sym is) (below m.rollbacks few not-exhausted)
    where
      few : m.rollbacks ≤ max_rollbacks
      few = find_passes IsFew n pool.members good.few m is

      not-exhausted : IsTrue (m.rollbacks == max_rollbacks) → ⊥
      not-exhausted h = fresh (subst (λ (o : Option (Member M)). IsSomeAnd o (λ x. IsTrue (is_exhausted x))) (sym is) h)

      below : (k : ℕ) → k ≤ max_rollbacks → (IsTrue (k == max_rollbacks) → ⊥) → k < max_rollbacks
      below k le ne = let apart : k ≡ max_rollbacks → ⊥ = (λ e. ne (eq-eqb k max_rollbacks e)) in omega (arith, le, apart)

module _ {M : Type 0} (term : M → Tree) where
  -- a pool is good that is so by its terms
  pub good-told : (pool : Roster M) → IsGoodPool (shown_pool term pool) → IsGoodPool pool
  good-told pool good = record { rising = rising pool.members good.rising; few = few pool.members good.few }
    where
      above : (n : ℕ) (ms : List (Member M)) → All (λ m. n < m.number) (map (shown_member term) ms) → All (λ m. n < m.number) ms
      above n [] all = All-nil (λ (m : Member M). n < m.number)
      above n (m ∷ ms) all =
          let head : n < m.number = All-head (λ (x : Member Tree). n < x.number) (shown_member term m) (map (shown_member term) ms) all in
          let rest = above n ms (All-tail (λ (x : Member Tree). n < x.number) (shown_member term m) (map (shown_member term) ms) all) in
          All-cons (λ (x : Member M). n < x.number) m ms head rest

      rising : (ms : List (Member M)) → IsRising (map (shown_member term) ms) → IsRising ms
      rising [] h = h
      rising (m ∷ ms) h = (above m.number ms h.0, rising ms h.1)

      few : (ms : List (Member M)) → All (λ m. m.rollbacks ≤ max_rollbacks) (map (shown_member term) ms) → All (λ m. m.rollbacks ≤ max_rollbacks) ms
      few [] all = All-nil (λ (m : Member M). m.rollbacks ≤ max_rollbacks)
      few (m ∷ ms) all =
          let head : m.rollbacks ≤ max_rollbacks = All-head (λ (x : Member Tree). x.rollbacks ≤ max_rollbacks) (shown_member term m) (map (shown_member term) ms) all in
          let rest = few ms (All-tail (λ (x : Member Tree). x.rollbacks ≤ max_rollbacks) (shown_member term m) (map (shown_member term) ms) all) in
          All-cons (λ (x : Member M). x.rollbacks ≤ max_rollbacks) m ms head rest
