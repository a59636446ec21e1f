-- A split keeps the rule: the first seat makes another.
use Rattle.std.proofs.Common.{◌≡◌, ◌≢◌, ℕ, ◌+◌, ◌<◌, ◌≤◌, true, false, List, [], ◌∷◌, ◌++◌, length, set, Some, None, IsSome, sym, refl, ap, ◌∙◌, inl, inr, ⊎_elim, subst, arith, length-append, length-set}
use mathlib.Core.Option.{some}
use lib.ListN.{get_elem?}
use Rattle.crossbeam_queue.specs.Fifo.{Forks}
use Rattle.crossbeam_queue.proofs.Lists.{set_else, at_longer}
use Rattle.ame_baton.specs.declared.view.Knows.{Knows}
use Rattle.ame_baton.specs.Seats.{left_by, IsThereAsLeft, next_seat}
use Rattle.ame_baton.specs.Rule.{Truth, Agrees, KnowsTruth, TurnIs}
use Rattle.ame_baton.proofs.Lookups.{get_there, all_set, all_snoc}
use Rattle.ame_baton.proofs.Staying.{entries_before}
use Rattle.ame_baton.proofs.Reading.{Rule, not_holder, opened, seated, not_both, Place}

module _ {S F R E : Type 0} (stands_for : S → F → List R → List E → Type 0) (empty : R) (seat_of : E → ℕ) where
  turn_split : (t : Truth F R E) (n : ℕ) (views : List (Knows F R E)) (port : ℕ) (v l r : Knows F R E) (items : List S) → get_elem? views port ≡ some v → v.holds ≡ false → l.holds ≡ false → r.holds ≡ false
      → TurnIs stands_for t views items → TurnIs stands_for (record t { made = n }) (set views port l ++ r ∷ []) items
  turn_split t n views port v l r [] at free lfree rfree turn =
      let apart = not_holder stands_for empty seat_of views turn.0 port turn.1 v turn.2 turn.3 at free in
      let P : ℕ → Knows F R E → Type 0 = λ j u. u.holds ≡ true → j ≡ turn.0 in (
        turn.0,
        turn.1,
        at_longer (set views port l) (r ∷ []) turn.0 turn.1 (set_else views port turn.0 l apart ∙ turn.2),
        turn.3,
        turn.4,
        turn.5,
        all_snoc P (set views port l) r (λ h. absurd (not_both r.holds h rfree)) (all_set P views port l (λ h. absurd (not_both l.holds h lfree)) (λ j u ne e h. turn.6 j u e h)),
      )
  turn_split t n views port v l r (y ∷ []) at free lfree rfree turn = let P : ℕ → Knows F R E → Type 0 = λ j u. u.holds ≡ false in
      (turn.0, all_snoc P (set views port l) r rfree (all_set P views port l lfree (λ j u ne e. turn.1 j u e)))
  turn_split t n views port v l r (y ∷ z ∷ zs) at free lfree rfree turn = absurd turn

  fits_more : (t : Truth F R E) (j : ℕ) (u : Knows F R E) → j ≢ 0 → KnowsTruth seat_of t j u → KnowsTruth seat_of (record t { made = t.made + 1 }) j u
  fits_more t j u ne fits = ⊎_elim (λ (x : (0 < j) × (j ≤ length t.ended) × (u.fixed ≡ None) × (u.holds ≡ false)). inl x)
      (λ (x : Place (length t.ended) j × Agrees seat_of t j u). inr (x.0, record { number = x.1.number; opening = x.1.opening; seats = x.1.seats; stays = x.1.stays; leads = λ z. absurd (ne z) })) fits

  pub forks : (port : ℕ) (v : Knows F R E) → IsSome v.fixed → v.number ≡ 0 → v.holds ≡ false → v.made < v.seats → Forks (Rule stands_for empty seat_of) port v (record v { made = v.made + 1 }) (next_seat v empty)
  forks port v is first free room items views h at =
      let found = opened stands_for empty seat_of items views port v is h at in let t = found.0 in let o = found.1 in
      let s = seated stands_for empty seat_of t items views port v is o at in let a = s.1 in
      let l : Knows F R E = record v { made = v.made + 1 } in let r : Knows F R E = next_seat v empty in
      let t' : Truth F R E = record t { made = t.made + 1 } in
      let port_is : port ≡ 0 = sym a.number ∙ first in let led = a.leads port_is in
      let count : length (set views port l) ≡ length views = length-set views port l in
      let made = o.made in let made_is = led.0 in let seats = a.seats in let some_left = o.some_left in
      let there = get_there t.rows v.made (omega arith) in
      let untouched = o.not_made v.made (omega arith) in
      let mine : KnowsTruth seat_of t' port l = inr (s.0, record { number = a.number; opening = a.opening; seats = a.seats; stays = a.stays; leads = λ z. (ap (λ n. n + 1) made_is, led.1) }) in
      let new : KnowsTruth seat_of t' (length (set views port l)) r = inr (
        inr (omega arith),
        record {
          number = made_is ∙ (made ∙ sym count);
          opening = a.opening;
          seats = a.seats;
          stays = subst (λ n. IsThereAsLeft seat_of n (left_by r) t.rows t.entries) (made_is ∙ (made ∙ sym count)) (record {
            row = there.1 ∙ ap Some (untouched.row there.0 there.1);
            goes_on = a.stays.goes_on;
            own = untouched.none;
            seen = entries_before seat_of v.made v.seen t.entries a.stays.goes_on untouched.none;
          });
          leads = λ z. absurd (omega arith);
        },
      ) in
      inr (
        t',
        record {
          made = omega (arith, length-append (set views port l) (r ∷ []));
          enough = omega arith;
          some_left = omega arith;
          each = all_snoc (KnowsTruth seat_of t') (set views port l) r new (all_set (KnowsTruth seat_of t') views port l mine
              (λ j u ne e. fits_more t j u (λ z. ne (z ∙ sym port_is)) (o.each j u e)));
          joined = o.joined;
          not_made = λ n le. o.not_made n (omega arith);
          turn = turn_split t (t.made + 1) views port v l r items at free free refl o.turn;
        },
      )
