-- The facts that a registry's fields keep after an edit of one member.
use Rattle.std.proofs.Common.{◌≡◌, ◌<◌, ◌≤◌, ◌+◌, ◌-◌, ◌^◌, ℕ, Bool, true, false, cond, List, [], ◌∷◌, ◌++◌, length, Option, Some, None, option_map, IsSomeAnd, IsTrue, refl, sym, ap, subst, ◌∙◌, arith}
use Rattle.std.proofs.lemmas.Option.{none-some, same_Some}
use Rattle.ame_pool.specs.Standings.{max_rollbacks}
use Rattle.ame_pool.proofs.Words.{IsFoundAfter, Member, Transition, Counts, find, altered, placed, except, is_ready, Register, Roster, Queues, HasPlace, pushed, taken, counted, IsRecounted, IsAt, skipping, after_transition, is_readied, is_readied_at, turned_at, IsOrderOf, is_inside_at, IsKept, filter, count_by-le-length, length-filter}
use Rattle.ame_pool.proofs.MemberLemmas.{count_all, find_passes, all_after, found_altered, length_altered, found_placed, length_placed, found_except, length_except}
use Rattle.ame_pool.proofs.OrderLemmas.{filter_push, filter_skipping, absent, unready, order_short, order_shorter, ordered_same, ordered_readied, ordered_held, ordered_placed, ordered_except, inside_at, inside_same, inside_but}
use Rattle.ame_pool.proofs.CountLemmas.{kinds, counted_altered, counted_placed, counted_except}
use Rattle.ame_pool.proofs.StandingLemmas.{turned_number, turn_is}

module _ {M : Type 0} where
  pub one_there : (o : Option (Member M)) (P : Member M → Type 0) → IsSomeAnd o P → (m : Member M) × (o ≡ Some m) × P m
  one_there None P h = absurd h
  one_there (Some m) P h = (m, refl, h)

  -- a member has the number and passes the test
  pub record IsOpen (test : Member M → Bool) (n : ℕ) (ms : List (Member M)) : Type 0 where
    pub member : Member M
    pub found : find n ms ≡ Some member
    pub passes : test member ≡ true

  pub opened : (test : Member M → Bool) (n : ℕ) (a s : Roster M) → a ≡ s → IsAt test n s → IsOpen test n a.members
  opened test n a s view need =
      let o = one_there (find n a.members) (λ m. IsTrue (test m)) (subst (IsAt test n) (sym view) need) in
      record { member = o.0; found = o.1; passes = o.2 }

  -- the member that was found passes
  pub passes : (test : Member M → Bool) (n : ℕ) (a s : Roster M) → a ≡ s → IsAt test n s → (m : Member M) → find n a.members ≡ Some m → test m ≡ true
  passes test n a s view need m found = subst (λ o. IsSomeAnd o (λ m. IsTrue (test m))) found (subst (IsAt test n) (sym view) need)

  -- who passes a test passes a weaker one
  pub at_weaker : (p q : Member M → Bool) → ((m : Member M) → p m ≡ true → q m ≡ true) → (n : ℕ) (a s : Roster M) → a ≡ s → IsAt p n s → IsAt q n a
  at_weaker p q up n a s view need = let o = opened p n a s view need in rw o.found (up o.member o.passes)

  -- what a turn makes of the pool
  pub turned_pool : (n : ℕ) (to : Transition M) (a s : Roster M) → a ≡ s → (m : Member M) → find n a.members ≡ Some m → (b : Bool) → is_readied to m ≡ b
      → turned_at n to a ≡ record s { members = altered n (after_transition to) s.members; order = s.order ++ cond b (n ∷ []) [] }
  turned_pool n to a s view m found b e =
      let at : is_readied_at n to a ≡ b = rw (found, is_readied_at) e in
      rw at (ap (λ (x : Roster M). let r : Roster M = record x { members = altered n (after_transition to) x.members; order = x.order ++ cond b (n ∷ []) [] } in r) view)

  -- the altered member is found
  module _ (n : ℕ) (to : Transition M) (ms : List (Member M)) (m : Member M) (found : find n ms ≡ Some m) where
    pub found_turned : find n (altered n (after_transition to) ms) ≡ Some (after_transition to m)
    found_turned = (found_altered n (after_transition to) (turned_number to) ms).here ∙ ap (option_map (after_transition to)) found

    pub side_turned : (i : Bool) → Some i ≡ option_map (λ m. (after_transition to m).inside) (find n ms) → i ≡ (after_transition to m).inside
    side_turned i e = same_Some i (after_transition to m).inside (e ∙ ap (option_map (λ m. (after_transition to m).inside)) found)

module _ {M : Type 0} {reg : Register M} {q : Queues} {c : Counts} (h : IsKept reg q c) where
  -- ---- what there is room for
  pub inside_short : length q.inside ≤ length q.order
  inside_short = omega (arith, ap length h.inside, length-filter (is_inside_at reg.list) q.order, count_by-le-length (is_inside_at reg.list) q.order)

  -- who isn't ready is busy or parked
  pub sizes : length q.order + (c.busy + c.parked) ≡ length reg.list
  sizes = omega (arith, kinds reg.list, h.sound.ordered (λ _. true), count_all q.order, h.counted.busy, h.counted.parked)

  pub free_place : 0 < reg.room → HasPlace q
  free_place room =
      let order : length q.order < q.places = omega (arith, room, order_short reg.list q.order h.sound.ordered, h.fits) in
      record { order = order; inside = omega (arith, order, inside_short) }

  abbrev few : Member M → Type 0
  few m = m.rollbacks ≤ max_rollbacks

  module _ (n : ℕ) (m : Member M) (found : find n reg.list ≡ Some m) where
    -- a member that isn't ready leaves a place in the order
    pub left_place : is_ready m ≡ false → HasPlace q
    left_place was =
        let order : length q.order < q.places = omega (arith, order_shorter reg.list q.order h.sound.ordered n m found was, h.fits) in
        record { order = order; inside = omega (arith, order, inside_short) }

    -- ---- its turn
    module _ (to : Transition M) (d c' : Counts) (leave : c ≡ counted m d) (enter : c' ≡ counted (after_transition to m) d) where
      abbrev new : List (Member M)
      new = altered n (after_transition to) reg.list

      edit : IsFoundAfter n (option_map (after_transition to)) reg.list new
      edit = found_altered n (after_transition to) (turned_number to) reg.list

      inside_new : is_inside_at new n ≡ (after_transition to m).inside
      inside_new = inside_at n new (after_transition to m) (found_turned n to reg.list m found)

      turned_kept : (q' : Queues) → q'.places ≡ q.places → IsOrderOf new q'.order → q'.inside ≡ filter (is_inside_at new) q'.order
          → IsKept (record reg { list = new }) q' c'
      turned_kept q' places ordered inside = record {
        sound = record {
          rising = edit.rising h.sound.rising;
          ordered = ordered;
          rollbacks = all_after edit h.sound.rising few h.sound.rollbacks (λ o e.
              subst few (same_Some (after_transition to m) o (ap (option_map (after_transition to)) (sym found) ∙ e))
              ((turn_is to m).few (find_passes few n reg.list h.sound.rollbacks m found)));
        };
        inside = inside;
        counted = counted_altered reg.list c h.counted n m found (after_transition to) d c' leave enter;
        fits = omega (arith, h.fits, places, length_altered n (after_transition to) reg.list);
        small = omega (arith, h.small, places);
      }

      kept_unready : (r : Bool) → is_ready m ≡ false → is_ready (after_transition to m) ≡ r
          → IsKept (record reg { list = new }) (cond r (pushed n (after_transition to m).inside q) q) c'
      kept_unready false was is =
          turned_kept q refl (ordered_same reg.list q.order h.sound.ordered n (after_transition to) (turned_number to) m found (is ∙ sym was))
          (h.inside ∙ inside_but edit q.order (unready reg.list q.order h.sound n m found was))
      kept_unready true was is =
          turned_kept (pushed n (after_transition to m).inside q) refl (ordered_readied reg.list q.order h.sound.ordered n (after_transition to) (turned_number to) m found was is)
          (ap (λ l. cond (after_transition to m).inside (l ++ n ∷ []) l) (h.inside ∙ inside_but edit q.order (unready reg.list q.order h.sound n m found was))
          ∙ filter_push (is_inside_at new) q.order n (after_transition to m).inside inside_new)

      pub kept_held : is_ready m ≡ true → is_ready (after_transition to m) ≡ false → (after_transition to m).inside ≡ m.inside
          → IsKept (record reg { list = new }) (taken n m.inside q) c'
      kept_held was is same =
          turned_kept (taken n m.inside q) refl (ordered_held reg.list q.order h.sound.ordered n (after_transition to) (turned_number to) m found was is)
          (ap (λ l. cond m.inside (skipping n l) l) (h.inside ∙ inside_same edit (inside_at n reg.list m found ∙ sym same ∙ sym inside_new) q.order)
          ∙ filter_skipping (is_inside_at new) n q.order m.inside (inside_new ∙ same))

    pub kept_turn : is_ready m ≡ false → (to : Transition M) (reg' : Register M) → reg' ≡ record reg { list = altered n (after_transition to) reg.list }
        → (r : Bool) → Some r ≡ option_map (is_readied to) (find n reg.list) → (i : Bool) → Some i ≡ option_map (λ m. (after_transition to m).inside) (find n reg.list)
        → (c' : Counts) → IsRecounted m (after_transition to m) c c' → (q' : Queues) → q' ≡ cond r (pushed n i q) q → IsKept reg' q' c'
    kept_turn was to reg' new r told i side c' counts q' queue =
        let readied : Some r ≡ Some (is_readied to m) = told ∙ ap (option_map (is_readied to)) found in
        let is : is_ready (after_transition to m) ≡ r = (turn_is to m).ready was ∙ (let e : is_readied to m ≡ r = cc in e) in
        let line : q' ≡ cond r (pushed n (after_transition to m).inside q) q = queue ∙ ap (λ b. cond r (pushed n b q) q) (side_turned n to reg.list m found i side) in
        rw (new, line) (kept_unready to counts.others c' counts.left counts.entered r was is)

    -- ---- it leaves
    pub kept_except : is_ready m ≡ false → (c' : Counts) → c ≡ counted m c' → IsKept (record reg { list = except n reg.list }) q c'
    kept_except was c' counts =
        let edit = found_except n reg.list h.sound.rising in
        record {
          sound = record {
            rising = edit.rising h.sound.rising;
            ordered = ordered_except reg.list q.order h.sound.ordered n m found was;
            rollbacks = all_after edit h.sound.rising few h.sound.rollbacks (λ o e. absurd (none-some o e));
          };
          inside = h.inside ∙ inside_but edit q.order (unready reg.list q.order h.sound n m found was);
          counted = counted_except reg.list c h.counted n m found c' counts;
          fits = omega (arith, h.fits, length_except n reg.list m found);
          small = h.small;
        }

  -- ---- more room
  pub kept_roomy : (q' : Queues) → q'.order ≡ q.order → q'.inside ≡ q.inside → q'.places < 2 ^ 63 → (room : ℕ) → length reg.list + room ≤ q'.places → IsKept (record reg { room = room }) q' c
  kept_roomy q' order inside small room fits = record {
    sound = rw order h.sound;
    inside = inside ∙ h.inside ∙ ap (filter (is_inside_at reg.list)) (sym order);
    counted = h.counted;
    fits = fits;
    small = small;
  }

  -- ---- one joins
  pub kept_placed : (new : Member M) → find new.number reg.list ≡ None → is_ready new ≡ true → new.rollbacks ≤ max_rollbacks → 0 < reg.room
      → IsKept (record { list = placed new reg.list; room = reg.room - 1 }) (pushed new.number new.inside q) c
  kept_placed new fresh is low room =
      let edit = found_placed new reg.list fresh in
      record {
        sound = record {
          rising = edit.rising h.sound.rising;
          ordered = ordered_placed reg.list q.order h.sound.ordered new is;
          rollbacks = all_after edit h.sound.rising few h.sound.rollbacks (λ o e. subst few (same_Some new o e) low);
        };
        inside =
            ap (λ l. cond new.inside (l ++ new.number ∷ []) l) (h.inside ∙ inside_but edit q.order (absent reg.list q.order h.sound new.number fresh))
            ∙ filter_push (is_inside_at (placed new reg.list)) q.order new.number new.inside (inside_at new.number (placed new reg.list) new edit.here);
        counted = counted_placed reg.list c h.counted new is;
        fits = omega (arith, h.fits, room, length_placed new reg.list);
        small = h.small;
      }
