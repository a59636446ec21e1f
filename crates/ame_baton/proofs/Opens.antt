-- The first push keeps the rule.
use Rattle.std.proofs.Common.{◌≡◌, ℕ, ◌<◌, ◌≤◌, false, List, [], ◌∷◌, ◌++◌, length, set, replicate, Some, None, sym, refl, inl, inr, ⊎_elim, subst, arith}
use Rattle.std.proofs.lemmas.List.{length-replicate}
use mathlib.Core.Option.{some, some-ne-none}
use lib.ListN.{get_elem?}
use Rattle.crossbeam_queue.specs.Fifo.{Pushes, Learns}
use Rattle.ame_baton.specs.declared.view.Knows.{Knows}
use Rattle.ame_baton.specs.Seats.{first_seat}
use Rattle.ame_baton.specs.Rule.{nothing_known, Truth, Agrees, KnowsTruth}
use Rattle.ame_baton.proofs.Lookups.{get_replicate, get_replicate_in, all_snoc}
use Rattle.ame_baton.proofs.Reading.{Open, Rule, Place}

module _ {S F R E : Type 0} (stands_for : S → F → List R → List E → Type 0) (empty : R) (seat_of : E → ℕ) where
  just_opened : (x : S) (f : F) (seats : ℕ) → 0 < seats → stands_for x f (replicate seats empty) [] → Rule stands_for empty seat_of (x ∷ []) (first_seat f seats empty ∷ [])
  just_opened x f seats some_seat stands = let t : Truth F R E = record { fixed = f; rows = replicate seats empty; entries = []; made = 1; ended = [] } in
      let w : Knows F R E = first_seat f seats empty in
      let mine : KnowsTruth seat_of t 0 w = inr (
        inl refl,
        record {
          number = refl;
          opening = refl;
          seats = sym (length-replicate seats empty);
          stays = record { row = get_replicate_in seats empty 0 some_seat; goes_on = ([], refl); own = refl; seen = refl };
          leads = λ _. (refl, refl);
        },
      ) in
      inr (
        t,
        record {
          made = refl;
          enough = omega (arith, length-replicate seats empty);
          some_left = omega arith;
          each = all_snoc (KnowsTruth seat_of t) [] w mine (λ j u e. absurd (some-ne-none u (sym e)));
          joined = λ i it e. cc;
          not_made = λ n le. record { row = λ r e. get_replicate seats empty r n e; none = refl };
          turn = (stands, all_snoc (λ j (u : Knows F R E). u.holds ≡ false) [] w refl (λ j u e. absurd (some-ne-none u (sym e))));
        },
      )

  not_opened : (items : List S) (views : List (Knows F R E)) → Rule stands_for empty seat_of items views → get_elem? views 0 ≡ some (nothing_known empty) → (items ≡ []) × (views ≡ nothing_known empty ∷ [])
  not_opened items views h at = ⊎_elim (λ (x : (items ≡ []) × (views ≡ nothing_known empty ∷ [])). x)
      (λ (x : (t : Truth F R E) × Open stands_for empty seat_of t items views). absurd (⊎_elim (λ (y : (0 < 0) × (0 ≤ length x.0.ended) × (None ≡ None) × (false ≡ false)). let no : 0 < 0 = y.0 in omega arith)
      (λ (y : Place (length x.0.ended) 0 × Agrees seat_of x.0 0 (nothing_known empty)). let none : None ≡ Some x.0.fixed = y.1.opening in cc)
      (x.1.each 0 (nothing_known empty) at))) h

  pub opens : (n : ℕ) (x : S) (f : F) (seats : ℕ) → 0 < seats → stands_for x f (replicate seats empty) [] → Pushes (Rule stands_for empty seat_of) n 0 (nothing_known empty) x (λ w. w ≡ first_seat f seats empty)
  opens n x f seats some_seat stands items views room h at = let e = not_opened items views h at in
      (first_seat f seats empty, subst (λ (y : List S × List (Knows F R E)). Rule stands_for empty seat_of (y.0 ++ x ∷ []) (set y.1 0 (first_seat f seats empty))) (λ i. (sym e.0 i, sym e.1 i)) (just_opened x f seats some_seat stands), refl)

  pub opens_empty : Learns (Rule stands_for empty seat_of) 0 (nothing_known empty) (λ items. items ≡ [])
  opens_empty items views h at = (not_opened items views h at).0
