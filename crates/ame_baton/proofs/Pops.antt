-- A pop keeps the rule, and gives the seat its knowledge.
use Rattle.std.proofs.Common.{◌≡◌, ◌≢◌, ℕ, ◌+◌, ◌<◌, ◌≤◌, true, false, List, [], ◌∷◌, length, set, Option, Some, None, IsSome, IsSomeAnd, slice_get, sym, refl, ap, ◌∙◌, inr, ⊎_elim, subst, arith, length-set}
use mathlib.Core.Option.{some, some-injective}
use lib.ListN.{get_elem?}
use Rattle.crossbeam_queue.specs.Fifo.{Pops, Learns}
use Rattle.crossbeam_queue.proofs.Lists.{set_here}
use Rattle.ame_baton.specs.declared.view.Knows.{Knows}
use Rattle.ame_baton.specs.declared.view.LastSeen.{LastSeen}
use Rattle.ame_baton.specs.Seats.{left_by, IsThereAsLeft, IsUntouched, IsElsewhere}
use Rattle.ame_baton.specs.Rule.{Truth, Agrees, KnowsTruth, TurnIs, Popped}
use Rattle.ame_baton.proofs.Lookups.{at_within, all_set, prefix_self}
use Rattle.ame_baton.proofs.Reading.{Rule, beyond, opened, seated, not_both, Place}

module _ {S F R E : Type 0} (stands_for : S → F → List R → List E → Type 0) (empty : R) (seat_of : E → ℕ) where
  turn_taken : (t : Truth F R E) (views : List (Knows F R E)) (port : ℕ) (v w : Knows F R E) (x : S) (items : List S) → get_elem? views port ≡ some v → w.holds ≡ true → w.rows ≡ t.rows → w.seen ≡ t.entries
      → TurnIs stands_for t views (x ∷ items) → stands_for x t.fixed t.rows t.entries × TurnIs stands_for t (set views port w) items
  turn_taken t views port v w x [] at holds rows seen turn = (
    turn.0,
    (
      port,
      w,
      set_here views port w (at_within views port v at),
      holds,
      rows,
      seen,
      all_set (λ j (u : Knows F R E). u.holds ≡ true → j ≡ port) views port w (λ _. refl) (λ j u ne e h. absurd (not_both u.holds h (turn.1 j u e))),
    ),
  )
  turn_taken t views port v w x (y ∷ ys) at holds rows seen turn = absurd turn

  popped : (t : Truth F R E) (v : Knows F R E) (x : S) (port : ℕ) → Agrees seat_of t port v → ((i : ℕ) (it : LastSeen R E) → slice_get t.ended i ≡ Some it → IsThereAsLeft seat_of (i + 1) it t.rows t.entries)
      → ((n : ℕ) → t.made ≤ n → IsUntouched empty seat_of n t.rows t.entries) → stands_for x t.fixed t.rows t.entries
      → Popped stands_for empty seat_of v x (record v { holds = true; rows = t.rows; seen = t.entries })
  popped t v x port a joined not_made stands = record {
    takes = record {
      stands = subst (λ (o : Option F). IsSomeAnd o (λ f. stands_for x f t.rows t.entries)) (sym a.opening) stands;
      one_row_a_seat = sym a.seats;
      stays = subst (λ (n : ℕ). IsThereAsLeft seat_of n (left_by v) t.rows t.entries) (sym a.number) a.stays;
      rest = refl;
    };
    others = λ zero_is. let is = a.leads (sym a.number ∙ zero_is) in record {
      ended = λ i it e. joined i it (ap (λ l. slice_get l i) (sym is.1) ∙ e);
      not_made = λ n le. not_made n (omega (arith, is.0));
    };
  }

  pub takes : (port : ℕ) (v : Knows F R E) → IsSome v.fixed → Pops (Rule stands_for empty seat_of) port v (Popped stands_for empty seat_of v)
  takes port v is x items views h at =
      let r = opened stands_for empty seat_of (x ∷ items) views port v is h at in let t = r.0 in let o = r.1 in
      let s = seated stands_for empty seat_of t (x ∷ items) views port v is o at in
      let w : Knows F R E = record v { holds = true; rows = t.rows; seen = t.entries } in
      let taken = turn_taken t views port v w x items at refl refl refl o.turn in
      let mine : KnowsTruth seat_of t port w = inr (
        s.0,
        record {
          number = s.1.number;
          opening = s.1.opening;
          seats = s.1.seats;
          stays = record { row = s.1.stays.row; goes_on = prefix_self t.entries; own = s.1.stays.own; seen = s.1.stays.own };
          leads = s.1.leads;
        },
      ) in (
        w,
        inr (
          t,
          record {
            made = o.made ∙ sym (length-set views port w);
            enough = o.enough;
            some_left = o.some_left;
            each = all_set (KnowsTruth seat_of t) views port w mine (λ j u ne e. o.each j u e);
            joined = o.joined;
            not_made = o.not_made;
            turn = taken.1;
          },
        ),
        popped t v x port s.1 o.joined o.not_made taken.0,
      )

  holder_of : (t : Truth F R E) (views : List (Knows F R E)) (items : List S) → items ≡ [] → TurnIs stands_for t views items → (holder : ℕ) × (k : Knows F R E) × (get_elem? views holder ≡ some k) × (k.holds ≡ true)
  holder_of t views [] e turn = (turn.0, turn.1, turn.2, turn.3)
  holder_of t views (y ∷ ys) e turn = cc

  pub elsewhere : (port : ℕ) (v : Knows F R E) → IsSome v.fixed → v.holds ≡ false → Learns (Rule stands_for empty seat_of) port v (λ items. items ≡ [] → IsElsewhere v)
  elsewhere port v is free items views h at none =
      let r = opened stands_for empty seat_of items views port v is h at in let t = r.0 in let o = r.1 in
      let a = (seated stands_for empty seat_of t items views port v is o at).1 in
      let there = holder_of t views items none o.turn in let n = there.0 in let k = there.1 in
      let apart : n ≢ port = λ (e : n ≡ port). not_both v.holds (ap (λ (u : Knows F R E). u.holds) (some-injective v k (sym at ∙ (ap (λ j. get_elem? views j) (sym e) ∙ there.2))) ∙ there.3) free in
      let within = at_within views n k there.2 in
      let made = o.made in let enough = o.enough in let seats = a.seats in let number = a.number in
      let place : Place (length t.ended) n = ⊎_elim (λ (x : (0 < n) × (n ≤ length t.ended) × (k.fixed ≡ None) × (k.holds ≡ false)). absurd (not_both k.holds there.3 x.3))
      (λ (x : Place (length t.ended) n × Agrees seat_of t n k). x.0) (o.each n k there.2) in (
        n,
        (λ e. apart (e ∙ number)),
        omega arith,
        λ first. let led = a.leads (sym number ∙ first) in
            let not_first : n ≢ 0 = λ (z : n ≡ 0). apart (z ∙ (sym first ∙ number)) in
            let far = beyond stands_for empty seat_of (length t.ended) n place not_first in
            let same : length v.ended ≡ length t.ended = ap length led.1 in
            let same_made = led.0 in (omega arith, omega arith),
      )
