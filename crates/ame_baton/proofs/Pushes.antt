-- A push keeps the rule.
use Rattle.std.proofs.Common.{◌≡◌, ◌≢◌, ℕ, ◌+◌, ◌<◌, ◌≤◌, true, false, List, [], ◌∷◌, ◌++◌, length, set, Option, Some, None, IsSome, IsSomeAnd, All, sym, refl, ap, ◌∙◌, inl, inr, ⊎_elim, subst, arith, length-set}
use mathlib.Core.Option.{some, some-injective}
use lib.ListN.{get_elem?}
use Rattle.crossbeam_queue.specs.Fifo.{Pushes, Learns}
use Rattle.ame_baton.specs.declared.view.Knows.{Knows}
use Rattle.ame_baton.specs.declared.view.LastSeen.{LastSeen}
use Rattle.ame_baton.specs.Seats.{entries_by, left_by, IsThereAsLeft, IsUntouched, MayGive, having_given, Gives}
use Rattle.ame_baton.specs.Rule.{nothing_known, Truth, Agrees, KnowsTruth, TurnIs}
use Rattle.ame_baton.proofs.Lookups.{get_within, at_within, all_set}
use Rattle.ame_baton.proofs.Staying.{stays_else, stays_here, untouched_else}
use Rattle.ame_baton.proofs.Reading.{Open, Rule, opened, seated, not_both, false_where_not, Place}

module _ {S F R E : Type 0} (stands_for : S → F → List R → List E → Type 0) (empty : R) (seat_of : E → ℕ) where
  turn_held : (t : Truth F R E) (views : List (Knows F R E)) (port : ℕ) (v : Knows F R E) (items : List S) → get_elem? views port ≡ some v → v.holds ≡ true → TurnIs stands_for t views items → items ≡ []
  turn_held t views port v [] at holds turn = refl
  turn_held t views port v (y ∷ []) at holds turn = absurd (not_both v.holds holds (turn.1 port v at))
  turn_held t views port v (y ∷ z ∷ zs) at holds turn = absurd turn

  pub sees_empty : (port : ℕ) (v : Knows F R E) → v.holds ≡ true → Learns (Rule stands_for empty seat_of) port v (λ items. items ≡ [])
  sees_empty port v holds items views h at = ⊎_elim (λ (x : (items ≡ []) × (views ≡ nothing_known empty ∷ [])). x.0)
      (λ (x : (t : Truth F R E) × Open stands_for empty seat_of t items views). turn_held x.0 views port v items at holds x.1.turn) h

  -- what the holder took is so, and no other seat holds
  turn_is : (t : Truth F R E) (views : List (Knows F R E)) (port : ℕ) (v : Knows F R E) → get_elem? views port ≡ some v → v.holds ≡ true → TurnIs stands_for t views []
      → (v.rows ≡ t.rows) × (v.seen ≡ t.entries) × ((j : ℕ) (u : Knows F R E) → get_elem? views j ≡ some u → u.holds ≡ true → j ≡ port)
  turn_is t views port v at holds turn = let e : port ≡ turn.0 = turn.6 port v at holds in
      let same : v ≡ turn.1 = some-injective v turn.1 (sym at ∙ (ap (λ j. get_elem? views j) e ∙ turn.2)) in (
        ap (λ (k : Knows F R E). k.rows) same ∙ turn.4,
        ap (λ (k : Knows F R E). k.seen) same ∙ turn.5,
        λ j u there h. turn.6 j u there h ∙ sym e,
      )

  stays_given : (t : Truth F R E) (v : Knows F R E) (row : R) (added : List E) → v.rows ≡ t.rows → v.seen ≡ t.entries → All (λ e. seat_of e ≡ v.number) added → (j : ℕ) (it : LastSeen R E) → j ≢ v.number
      → IsThereAsLeft seat_of j it t.rows t.entries → IsThereAsLeft seat_of j it (set v.rows v.number row) (v.seen ++ added)
  stays_given t v row added rows seen all j it ne s = stays_else seat_of v.number j it v.rows v.seen row added ne all
      (subst (λ (y : List R × List E). IsThereAsLeft seat_of j it y.0 y.1) (λ i. (sym rows i, sym seen i)) s)

  untouched_given : (t : Truth F R E) (v : Knows F R E) (row : R) (added : List E) → v.rows ≡ t.rows → v.seen ≡ t.entries → All (λ e. seat_of e ≡ v.number) added → (n : ℕ) → n ≢ v.number
      → IsUntouched empty seat_of n t.rows t.entries → IsUntouched empty seat_of n (set v.rows v.number row) (v.seen ++ added)
  untouched_given t v row added rows seen all n ne u = untouched_else seat_of empty v.number n v.rows v.seen row added ne all
      (subst (λ (y : List R × List E). IsUntouched empty seat_of n y.0 y.1) (λ i. (sym rows i, sym seen i)) u)

  -- another seat's view agrees still, if only rows and entries changed
  fits_given : (t t' : Truth F R E) (j : ℕ) (u : Knows F R E) → t.fixed ≡ t'.fixed → t.made ≡ t'.made → t.ended ≡ t'.ended → length t.rows ≡ length t'.rows
      → (IsThereAsLeft seat_of j (left_by u) t.rows t.entries → IsThereAsLeft seat_of j (left_by u) t'.rows t'.entries) → KnowsTruth seat_of t j u → KnowsTruth seat_of t' j u
  fits_given t t' j u fixed made ended long stays fits = let ends : length t.ended ≡ length t'.ended = ap length ended in
      ⊎_elim (λ (x : (0 < j) × (j ≤ length t.ended) × (u.fixed ≡ None) × (u.holds ≡ false)). inl (x.0, omega arith, x.2, x.3))
      (λ (x : Place (length t.ended) j × Agrees seat_of t j u). inr (
        subst (λ n. Place n j) ends x.0,
        record {
          number = x.1.number;
          opening = x.1.opening ∙ ap Some fixed;
          seats = x.1.seats ∙ long;
          stays = stays x.1.stays;
          leads = λ z. let led = x.1.leads z in (led.0 ∙ made, led.1 ∙ ended);
        },
      )) fits

  not_joined : (ended port i : ℕ) → Place ended port → i < ended → i + 1 ≢ port
  not_joined ended port i p lt e = ⊎_elim (λ (z : port ≡ 0). absurd (omega arith)) (λ (far : ended < port). absurd (omega arith)) p

  given : (leaves : R → Type 0) (t : Truth F R E) (views : List (Knows F R E)) (port : ℕ) (v : Knows F R E) (x : S) (may : MayGive stands_for seat_of leaves v x)
      → IsSome v.fixed → v.holds ≡ true → Open stands_for empty seat_of t [] views → get_elem? views port ≡ some v → Rule stands_for empty seat_of (x ∷ []) (set views port (having_given v may.row may.added))
  given leaves t views port v x may is holds o at =
      let s = seated stands_for empty seat_of t [] views port v is o at in let a = s.1 in
      let so = turn_is t views port v at holds o.turn in
      let w : Knows F R E = having_given v may.row may.added in
      let t' : Truth F R E = record t { rows = set v.rows v.number may.row; entries = v.seen ++ may.added } in
      let long : length (set v.rows v.number may.row) ≡ length t.rows = length-set v.rows v.number may.row ∙ ap length so.0 in
      let within = at_within views port v at in let made = o.made in let enough = o.enough in let number = a.number in
      let in_rows : v.number < length v.rows = omega (arith, ap length so.0) in
      let own : IsThereAsLeft seat_of port (left_by w) t'.rows t'.entries = subst (λ (n : ℕ). IsThereAsLeft seat_of n (left_by w) t'.rows t'.entries) number
      (stays_here seat_of v.number v.rows v.seen v.own may.row may.added in_rows may.by_seat
      (subst (λ (y : ℕ × List E). entries_by seat_of y.0 y.1 ≡ v.own) (λ i. (sym number i, sym so.1 i)) a.stays.own)) in
      let other : (j : ℕ) (it : LastSeen R E) → j ≢ port → IsThereAsLeft seat_of j it t.rows t.entries → IsThereAsLeft seat_of j it t'.rows t'.entries =
      λ j it ne. stays_given t v may.row may.added so.0 so.1 may.by_seat j it (λ e. ne (e ∙ number)) in
      let untouched : (n : ℕ) → n ≢ port → IsUntouched empty seat_of n t.rows t.entries → IsUntouched empty seat_of n t'.rows t'.entries =
      λ n ne. untouched_given t v may.row may.added so.0 so.1 may.by_seat n (λ e. ne (e ∙ number)) in
      let mine : KnowsTruth seat_of t' port w = inr (s.0, record { number = number; opening = a.opening; seats = a.seats ∙ sym long; stays = own; leads = a.leads }) in
      inr (
        t',
        record {
          made = made ∙ sym (length-set views port w);
          enough = omega arith;
          some_left = o.some_left;
          each = all_set (KnowsTruth seat_of t') views port w mine (λ j u ne e. fits_given t t' j u refl refl refl (sym long) (other j (left_by u) ne) (o.each j u e));
          joined = λ i it e. other (i + 1) it (not_joined (length t.ended) port i s.0 (get_within t.ended i it e)) (o.joined i it e);
          not_made = λ n le. untouched n (λ (e : n ≡ port). omega arith) (o.not_made n le);
          turn = (
            subst (λ (f : Option F). IsSomeAnd f (λ y. stands_for x y t'.rows t'.entries)) a.opening may.stands,
            all_set (λ j (u : Knows F R E). u.holds ≡ false) views port w refl (λ j u ne e. false_where_not u.holds (λ h. ne (so.2 j u e h))),
          );
        },
      )

  given_from : (leaves : R → Type 0) (t : Truth F R E) (items : List S) (views : List (Knows F R E)) (port : ℕ) (v : Knows F R E) (x : S) (may : MayGive stands_for seat_of leaves v x)
      → IsSome v.fixed → v.holds ≡ true → Open stands_for empty seat_of t items views → get_elem? views port ≡ some v → Rule stands_for empty seat_of (items ++ x ∷ []) (set views port (having_given v may.row may.added))
  given_from leaves t [] views port v x may is holds o at = given leaves t views port v x may is holds o at
  given_from leaves t (y ∷ ys) views port v x may is holds o at = let none : y ∷ ys ≡ [] = turn_held t views port v (y ∷ ys) at holds o.turn in cc

  pub gives : (leaves : R → Type 0) (n port : ℕ) (v : Knows F R E) (x : S) → IsSome v.fixed → v.holds ≡ true → MayGive stands_for seat_of leaves v x
      → Pushes (Rule stands_for empty seat_of) n port v x (Gives stands_for seat_of leaves v x)
  gives leaves n port v x is holds may items views room h at = let r = opened stands_for empty seat_of items views port v is h at in
      (having_given v may.row may.added, given_from leaves r.0 items views port v x may is holds r.1 at, (may, refl))
