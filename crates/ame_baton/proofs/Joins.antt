-- A join keeps the rule: the first seat keeps what another one left.
use Rattle.std.proofs.Common.{◌≡◌, ◌≢◌, ℕ, ◌+◌, ◌<◌, ◌≤◌, true, false, List, [], ◌∷◌, ◌++◌, length, set, Some, None, IsSome, slice_get, sym, refl, ap, ◌∙◌, inl, inr, ⊎_elim, subst, arith, length-append, length-set}
use mathlib.Core.Option.{some}
use lib.ListN.{get_elem?}
use Rattle.crossbeam_queue.specs.Fifo.{Merges}
use Rattle.crossbeam_queue.proofs.Lists.{set_else}
use Rattle.ame_baton.specs.declared.view.Knows.{Knows}
use Rattle.ame_baton.specs.declared.view.LastSeen.{LastSeen}
use Rattle.ame_baton.specs.Seats.{left_by, IsThereAsLeft}
use Rattle.ame_baton.specs.Rule.{nothing_known, Truth, Agrees, KnowsTruth, TurnIs}
use Rattle.ame_baton.proofs.Lookups.{get_snoc, at_within, all_set}
use Rattle.ame_baton.proofs.Reading.{Rule, beyond, not_holder, opened, seated, not_both, Place}

module _ {S F R E : Type 0} (stands_for : S → F → List R → List E → Type 0) (empty : R) (seat_of : E → ℕ) where
  turn_joined : (t : Truth F R E) (ended : List (LastSeen R E)) (views : List (Knows F R E)) (port other : ℕ) (v u b spent : Knows F R E) (items : List S) → get_elem? views port ≡ some v → v.holds ≡ false → b.holds ≡ false
      → get_elem? views other ≡ some u → u.holds ≡ false → spent.holds ≡ false → TurnIs stands_for t views items → TurnIs stands_for (record t { ended = ended }) (set (set views port b) other spent) items
  turn_joined t ended views port other v u b spent [] at free bfree was ufree sfree turn =
      let apart = not_holder stands_for empty seat_of views turn.0 port turn.1 v turn.2 turn.3 at free in
      let apart' = not_holder stands_for empty seat_of views turn.0 other turn.1 u turn.2 turn.3 was ufree in
      let P : ℕ → Knows F R E → Type 0 = λ j u. u.holds ≡ true → j ≡ turn.0 in (
        turn.0,
        turn.1,
        set_else (set views port b) other turn.0 spent apart' ∙ (set_else views port turn.0 b apart ∙ turn.2),
        turn.3,
        turn.4,
        turn.5,
        all_set P (set views port b) other spent (λ h. absurd (not_both spent.holds h sfree)) (λ j w _ e. all_set P views port b (λ h. absurd (not_both b.holds h bfree)) (λ j w ne e h. turn.6 j w e h) j w e),
      )
  turn_joined t ended views port other v u b spent (y ∷ []) at free bfree was ufree sfree turn = let P : ℕ → Knows F R E → Type 0 = λ j u. u.holds ≡ false in
      (turn.0, all_set P (set views port b) other spent sfree (λ j w _ e. all_set P views port b bfree (λ j w ne e. turn.1 j w e) j w e))
  turn_joined t ended views port other v u b spent (y ∷ z ∷ zs) at free bfree was ufree sfree turn = absurd turn

  fits_joined : (t : Truth F R E) (it : LastSeen R E) (j : ℕ) (u : Knows F R E) → j ≢ 0 → j ≢ length t.ended + 1 → KnowsTruth seat_of t j u → KnowsTruth seat_of (record t { ended = t.ended ++ it ∷ [] }) j u
  fits_joined t it j u ne ne' fits = let long = length-append t.ended (it ∷ []) in
      ⊎_elim (λ (x : (0 < j) × (j ≤ length t.ended) × (u.fixed ≡ None) × (u.holds ≡ false)). inl (x.0, omega arith, x.2, x.3))
      (λ (x : Place (length t.ended) j × Agrees seat_of t j u). let far = beyond stands_for empty seat_of (length t.ended) j x.0 ne in
      inr (inr (omega arith), record { number = x.1.number; opening = x.1.opening; seats = x.1.seats; stays = x.1.stays; leads = λ z. absurd (ne z) })) fits

  pub merges : (port : ℕ) (v : Knows F R E) (other : ℕ) (u : Knows F R E) → IsSome v.fixed → v.number ≡ 0 → v.holds ≡ false → IsSome u.fixed → u.number ≡ length v.ended + 1 → u.holds ≡ false
      → Merges (Rule stands_for empty seat_of) port v other u (record v { ended = v.ended ++ left_by u ∷ [] }) (nothing_known empty)
  merges port v other u is first free is' next ufree items views h at two at' =
      let both : Knows F R E = record v { ended = v.ended ++ left_by u ∷ [] } in let spent : Knows F R E = nothing_known empty in
      let was : get_elem? views other ≡ some u = sym (set_else views port other both two) ∙ at' in
      let found = opened stands_for empty seat_of items views port v is h at in let t = found.0 in let o = found.1 in
      let s = seated stands_for empty seat_of t items views port v is o at in let a = s.1 in
      let b = (seated stands_for empty seat_of t items views other u is' o was).1 in
      let t' : Truth F R E = record t { ended = t.ended ++ left_by u ∷ [] } in
      let port_is : port ≡ 0 = sym a.number ∙ first in let led = a.leads port_is in
      let long = length-append t.ended (left_by u ∷ []) in
      let same : length v.ended ≡ length t.ended = ap length led.1 in
      let other_is : other ≡ length t.ended + 1 = sym b.number ∙ (next ∙ ap (λ n. n + 1) same) in
      let within = at_within views other u was in let made = o.made in
      let vs : List (Knows F R E) = set views port both in
      let counts : length (set vs other spent) ≡ length views = length-set vs other spent ∙ length-set views port both in
      let mine : KnowsTruth seat_of t' port both = inr (
        inl port_is,
        record {
          number = a.number;
          opening = a.opening;
          seats = a.seats;
          stays = a.stays;
          leads = λ z. (led.0, ap (λ l. l ++ left_by u ∷ []) led.1);
        },
      ) in
      let gone : KnowsTruth seat_of t' other spent = inl (omega arith, omega arith, refl, refl) in
      inr (
        t',
        record {
          made = made ∙ sym counts;
          enough = o.enough;
          some_left = omega arith;
          each = all_set (KnowsTruth seat_of t') vs other spent gone (λ j w ne e. all_set (λ j w. j ≢ other → KnowsTruth seat_of t' j w) views port both (λ _. mine)
              (λ j w ne' e' ne''. fits_joined t (left_by u) j w (λ z. ne' (z ∙ sym port_is)) (λ z. ne'' (z ∙ sym other_is)) (o.each j w e')) j w e ne);
          joined = λ i it e. ⊎_elim (λ (old : slice_get t.ended i ≡ Some it). o.joined i it old)
              (λ (new : (i ≡ length t.ended) × (left_by u ≡ it)). subst (λ (y : ℕ × LastSeen R E). IsThereAsLeft seat_of y.0 y.1 t.rows t.entries) (λ k. ((other_is ∙ ap (λ n. n + 1) (sym new.0)) k, new.1 k)) b.stays)
              (get_snoc t.ended (left_by u) it i e);
          not_made = o.not_made;
          turn = turn_joined t (t.ended ++ left_by u ∷ []) views port other v u both spent items at free free was ufree refl o.turn;
        },
      )
