-- The members that entries lead to, the slot that a number leads to, and what an edit of that slot makes of the members.
use Rattle.std.proofs.Common.{◌≡◌, ◌≢◌, ◌<◌, ◌==◌, ℕ, cond, List, [], ◌∷◌, All, Option, Some, None, IsSome, is_some, option_map, refl, sym, ap, subst, ◌∙◌, inl, inr, arith}
use Rattle.ame_pool.proofs.Words.{Slab, get, Updates, with_value, Member, Numbered, IsRising, IsFoundAfter, find, altered, placed, except, AreRising, IsSlotOf, key_of, filed, only, behind, members_at, filter, cases_eq, nat_tests, cases_Bool, All-nil, All-cons, All-head, All-tail}
use Rattle.slab.proofs.SlabLemmas.{Updates-with_value}
use Rattle.ame_pool.proofs.MemberLemmas.{find_number, none_above, rising_same, found_altered, found_placed, found_except, which}
use Rattle.ame_pool.proofs.EntryLemmas.{key_filed, rising_filed}

module _ {M : Type 0} where
  -- ---- one slot
  only_is : (k : ℕ) (o : Option (Member M)) (m : Member M) → only k o ≡ Some m → m.number ≡ k
  only_is k None m e = absurd cc
  only_is k (Some q) m e = grind (arith, nat_tests, e)

  only_some : (k : ℕ) (o : Option (Member M)) → IsSome (only k o) → only k o ≡ o
  only_some k None h = refl
  only_some k (Some m) h = grind (arith, nat_tests, h)

  -- who is found has no other number
  only_found : (n k : ℕ) (ms : List (Member M)) → k ≢ n → only k (find n ms) ≡ None
  only_found n k ms other = grind (arith, nat_tests, which (find n ms), find_number n ms, other)

  -- a number is sought in a list with the member of an entry at its head
  find_past : (k n : ℕ) (o : Option (Member M)) (ms : List (Member M)) → find k ms ≡ None → find n (behind (only k o) ms) ≡ cond (k == n) (only n o) (find n ms)
  find_past k n None ms none = grind (arith, nat_tests, none)
  find_past k n (Some m) ms none = grind (arith, nat_tests, none)

  -- ---- the members
  module _ (at : ℕ → Option (Member M)) where
    above_members : (n : ℕ) (es : List Numbered) → All (λ e. n < e.number) es → All (λ m. n < m.number) (members_at at es)
    above_members n [] h = All-nil (λ (m : Member M). n < m.number)
    above_members n (e ∷ es) h =
        let P : Member M → Type 0 = λ m. n < m.number in
        let rest = above_members n es (All-tail (λ e. n < e.number) e es h) in
        elim (only e.number (at e.key)) as (λ o. only e.number (at e.key) ≡ o → All P (behind o (members_at at es))) [
          | None ↦ λ i. rest
          | Some m ↦ λ i. All-cons P m (members_at at es) (omega (arith, only_is e.number (at e.key) m i, All-head (λ e. n < e.number) e es h)) rest
        ] refl

    pub rising_members : (es : List Numbered) → AreRising es → IsRising (members_at at es)
    rising_members [] r = tt
    rising_members (e ∷ es) r =
        elim (only e.number (at e.key)) as (λ o. only e.number (at e.key) ≡ o → IsRising (behind o (members_at at es))) [
          | None ↦ λ i. rising_members es r.1
          | Some m ↦ λ i. (
            subst (λ k. All (λ (q : Member M). k < q.number) (members_at at es)) (sym (only_is e.number (at e.key) m i)) (above_members e.number es r.0),
            rising_members es r.1,
          )
        ] refl

    -- the member in the slot that a number leads to, if it has the number
    abbrev pub held_at : ℕ → Option ℕ → Option (Member M)
    held_at n None = None
    held_at n (Some key) = only n (at key)

    held_some : (n : ℕ) (key : Option ℕ) → IsSome (held_at n key) → IsSome key
    held_some n None h = h
    held_some n (Some key) h = refl

    -- to seek a number is to test the slot that it leads to
    pub find_held : (es : List Numbered) → AreRising es → (n : ℕ) → find n (members_at at es) ≡ held_at n (key_of n es)
    find_held [] r n = refl
    find_held (e ∷ es) r n =
        let lone = none_above e.number (members_at at es) (above_members e.number es r.0) in
        find_past e.number n (at e.key) (members_at at es) lone ∙ grind (arith, cases_Bool (e.number == n), find_held es r.1 n)

    -- to drop stale entries changes no member
    pub kept_members : (es : List Numbered) → members_at at (filter (λ e. is_some (only e.number (at e.key))) es) ≡ members_at at es
    kept_members [] = refl
    kept_members (e ∷ es) = grind (arith, which (only e.number (at e.key)), kept_members es)

  -- ---- one slot has changed, which had no member but the number's, and has none but the number's
  record IsEditAt (n key : ℕ) (at at' : ℕ → Option (Member M)) : Type 0 where
    pub others : (k : ℕ) → k ≢ key → at' k ≡ at k
    pub before : (k : ℕ) → k ≢ n → only k (at key) ≡ None
    pub after : (k : ℕ) → k ≢ n → only k (at' key) ≡ None

  module _ {n key : ℕ} {at at' : ℕ → Option (Member M)} (edit : IsEditAt n key at at') where
    held_same : (k : ℕ) → k ≢ n → (j : Option ℕ) → held_at at' k j ≡ held_at at k j
    held_same k other None = refl
    held_same k other (Some i) =
        elim (cases_eq i key) [
          | inl same ↦ ap (λ q. only k (at' q)) same ∙ edit.after k other ∙ sym (edit.before k other) ∙ ap (λ q. only k (at q)) (sym same)
          | inr differs ↦ ap (only k) (edit.others i differs)
        ]

    -- a list in which each number finds whom it leads to is what the entries lead to now
    edited : (es es' : List Numbered) → AreRising es → AreRising es' → ((k : ℕ) → k ≢ n → key_of k es' ≡ key_of k es)
        → {f : Option (Member M) → Option (Member M)} {ms : List (Member M)} → IsFoundAfter n f (members_at at es) ms
        → held_at at' n (key_of n es') ≡ f (find n (members_at at es)) → members_at at' es' ≡ ms
    edited es es' r r' keys {f} {ms} found here =
        rising_same _ ms (rising_members at' es' r') (found.rising (rising_members at es r)) (λ k. find_held at' es' r' k ∙ elim (cases_eq k n) [
          | inl same ↦ subst (λ q. held_at at' q (key_of q es') ≡ find q ms) (sym same) (here ∙ sym found.here)
          | inr other ↦ ap (held_at at' k) (keys k other) ∙ held_same k other (key_of k es) ∙ sym (find_held at es r k) ∙ sym (found.others k other)
        ])

  -- ---- the number leads to a slot, and its member is there
  module _ {slots : Slab (Member M)} {es : List Numbered} {n key : ℕ} (h : IsSlotOf slots es n key) where
    -- another member of the number is put there, or none
    slot_edited : (slots' : Slab (Member M)) (new : Option (Member M)) → Updates slots slots' key new → only n new ≡ new → ((k : ℕ) → k ≢ n → only k new ≡ None)
        → {f : Option (Member M) → Option (Member M)} {ms : List (Member M)} → IsFoundAfter n f (members_at (get slots) es) ms → new ≡ f (get slots key)
        → members_at (get slots') es ≡ ms
    slot_edited slots' new step own alien {f} found is =
        let edit : IsEditAt n key (get slots) (get slots') = record {
          others = step.others;
          before = λ k other. ap (only k) (sym h.found) ∙ only_found n k (members_at (get slots) es) other;
          after = λ k other. ap (only k) step.changed ∙ alien k other;
        } in
        edited edit es es h.rising h.rising (λ _ _. refl) found (ap (held_at (get slots') n) h.keyed ∙ ap (only n) step.changed ∙ own ∙ is ∙ ap f (sym h.found))

    -- it is altered, and keeps its number
    pub slot_changed : (o : Member M) → get slots key ≡ Some o → (f : Member M → Member M) → ((m : Member M) → (f m).number ≡ m.number)
        → members_at (get (with_value slots key (f o))) es ≡ altered n f (members_at (get slots) es)
    slot_changed o read f num =
        let mine : (f o).number ≡ n = num o ∙ find_number n (members_at (get slots) es) o (h.found ∙ read) in
        slot_edited (with_value slots key (f o)) (Some (f o)) (Updates-with_value slots key (f o) h.there)
        (grind (arith, nat_tests, mine)) (λ k other. grind (arith, nat_tests, mine, other))
        (found_altered n f num (members_at (get slots) es)) (ap (option_map f) (sym read))

    -- it is emptied
    pub slot_emptied : (slots' : Slab (Member M)) → Updates slots slots' key None → members_at (get slots') es ≡ except n (members_at (get slots) es)
    slot_emptied slots' step =
        slot_edited slots' None step refl (λ _ _. refl) (found_except n (members_at (get slots) es) (rising_members (get slots) es h.rising)) refl

  -- a slot is filled, and an entry leads to it
  pub slot_filled : (slots slots' : Slab (Member M)) (es : List Numbered) → AreRising es → (new : Member M) (key : ℕ)
      → get slots key ≡ None → Updates slots slots' key (Some new) → find new.number (members_at (get slots) es) ≡ None
      → members_at (get slots') (filed (record { number = new.number; key = key }) es) ≡ placed new (members_at (get slots) es)
  slot_filled slots slots' es r new key free step none =
      let x : Numbered = record { number = new.number; key = key } in
      let keys = key_filed x es in
      let here : key_of new.number (filed x es) ≡ Some key = grind (arith, nat_tests, keys new.number) in
      let own : only new.number (Some new) ≡ Some new = grind (arith, nat_tests) in
      let edit : IsEditAt new.number key (get slots) (get slots') = record {
        others = step.others;
        before = λ k other. ap (only k) free;
        after = λ k other. ap (only k) step.changed ∙ grind (arith, nat_tests, other);
      } in
      edited edit es (filed x es) r (rising_filed es r x) (λ k other. grind (arith, nat_tests, keys k, other))
      (found_placed new (members_at (get slots) es) none) (ap (held_at (get slots') new.number) here ∙ ap (only new.number) step.changed ∙ own)

  -- ---- the slot of a number that finds a member
  module _ (slots : Slab (Member M)) (es : List Numbered) (rising : AreRising es) (n : ℕ) (there : IsSome (find n (members_at (get slots) es))) where
    pub known : IsSome (key_of n es)
    known = held_some (get slots) n (key_of n es) (subst (λ o. IsSome o) (find_held (get slots) es rising n) there)

    pub slot_at : (key : ℕ) → key_of n es ≡ Some key → IsSlotOf slots es n key
    slot_at key keyed =
        let sought : find n (members_at (get slots) es) ≡ only n (get slots key) = find_held (get slots) es rising n ∙ ap (held_at (get slots) n) keyed in
        let found = sought ∙ only_some n (get slots key) (subst (λ o. IsSome o) sought there) in
        record { rising = rising; keyed = keyed; found = found; there = subst (λ o. IsSome o) found there }
