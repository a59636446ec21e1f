-- Whom the index names, after an edit of the members and of the index.
use Rattle.std.proofs.Common.{◌≡◌, ◌==◌, ◌&&◌, ℕ, Bool, true, false, not, List, [], map, Option, Some, None, option_map, refl, sym, ap, subst, ◌∙◌, inl, inr, arith, ◌∷◌}
use Rattle.ame_pool.proofs.Words.{cases_Bool, cases_eq, Loc, Member, Transition, find, IsFoundAfter, Roster, begun, joined, held, removed, after_transition, turned_at, has, lists, among, untouched, waits_for, IsBetween, IsListedAfter, IsWatched, ◌||◌, BTreeSet, list_any}
use Rattle.ame_pool.proofs.MemberLemmas.{found_altered, found_placed, found_except}
use Rattle.ame_pool.proofs.StandingLemmas.{turned_number}
use Rattle.ame_pool.proofs.IndexLemmas.{listed_as, listed_then}

pub list_any-map : {X Y : Type 0} (f : X → Y) (p : Y → Bool) (xs : List X) → list_any p (map f xs) ≡ list_any (λ x. p (f x)) xs
list_any-map f p [] = refl
list_any-map f p (x ∷ xs) = ap (λ b. p (f x) || b) (list_any-map f p xs)

-- ---- truth values: a and k are in the new and the old list, l and m were listed before and in between
cleared_table : (k l : Bool) → l ≡ k → (not (k && not false) && l) ≡ false
cleared_table k l h = grind (arith, h, cases_Bool k)

noted_table : (a k l m : Bool) → l ≡ k → m ≡ (a || l) → (not (k && not a) && m) ≡ a
noted_table a k l m h e = grind (arith, h, e, cases_Bool a, cases_Bool k)

refused_table : (a k l m : Bool) → l ≡ k → (l ≡ true → m ≡ true) → (a ≡ false → m ≡ l) → (not (a && not k) && m) ≡ l
refused_table a k l m h had elsewhere = grind (arith, h, had, elsewhere, cases_Bool a, cases_Bool k)

-- ---- the index
module _ {M : Type 0} {s : Roster M} {ix : BTreeSet (ℕ × ℕ)} (h : IsWatched s ix) where
  -- the members and the index were edited at a number, and it is listed at the locations that the member with it then watches
  watched_after : (t : Roster M) {n : ℕ} {f : Option (Member M) → Option (Member M)} → IsFoundAfter n f s.members t.members
      → (new : Option (Member M)) → f (find n s.members) ≡ new
      → {test : ℕ → Bool} {ix' : BTreeSet (ℕ × ℕ)} → IsListedAfter n test ix ix' → ((k : ℕ) → test k ≡ waits_for k new) → IsWatched t ix'
  watched_after t {n} edit new e {test} {ix'} listed told = record {
    rising = edit.rising h.rising;
    indexed = λ k j. elim (cases_eq j n) [
      | inl same ↦ subst (λ i. lists ix' k i ≡ waits_for k (find i t.members)) (sym same) (listed.here k ∙ told k ∙ sym (ap (waits_for k) (edit.here ∙ e)))
      | inr other ↦ listed.others k j other ∙ h.indexed k j ∙ sym (ap (waits_for k) (edit.others j other))
    ];
  }

  -- the index is as it was
  listed_still : (n : ℕ) → IsListedAfter n (λ k. lists ix k n) ix ix
  listed_still n = record { here = λ _. refl; others = λ _ _ _. refl }

  pub watched_placed : (new : Member M) → find new.number s.members ≡ None → untouched new.standing ≡ [] → IsWatched (joined new s) ix
  watched_placed new fresh u =
      watched_after (joined new s) (found_placed new s.members fresh) (Some new) refl (listed_still new.number)
      (λ k. h.indexed k new.number ∙ ap (waits_for k) fresh ∙ sym (ap (has k) u))

  module _ (n : ℕ) (m : Member M) (found : find n s.members ≡ Some m) where
    -- what the index says of a member
    listed_at : (k : ℕ) → lists ix k n ≡ has k (untouched m.standing)
    listed_at k = h.indexed k n ∙ ap (waits_for k) found

    -- it is altered, and the index is as it was
    still : (t : Roster M) (f : Member M → Member M) → IsFoundAfter n (option_map f) s.members t.members
        → untouched (f m).standing ≡ untouched m.standing → IsWatched t ix
    still t f edit u = watched_after t edit (Some (f m)) (ap (option_map f) found) (listed_still n) (λ k. listed_at k ∙ sym (ap (has k) u))

    -- it watches what it watched
    pub watched_same : (to : Transition M) → untouched (after_transition to m).standing ≡ untouched m.standing → IsWatched (turned_at n to s) ix
    watched_same to u = still (turned_at n to s) (after_transition to) (found_altered n (after_transition to) (turned_number to) s.members) u

    pub watched_held : untouched m.standing ≡ [] → IsWatched (held n s) ix
    watched_held u = still (held n s) begun (found_altered n begun (λ _. refl) s.members) (sym u)

    -- it watches nothing any more
    module _ {ix' : BTreeSet (ℕ × ℕ)} (clear : IsListedAfter n (λ _. false) ix ix') where
      pub watched_cleared : (to : Transition M) → untouched (after_transition to m).standing ≡ [] → IsWatched (turned_at n to s) ix'
      watched_cleared to none =
          watched_after (turned_at n to s) (found_altered n (after_transition to) (turned_number to) s.members) (Some (after_transition to m)) (ap (option_map (after_transition to)) found)
          clear (λ k. sym (ap (has k) none))

      -- it left
      pub watched_except : IsWatched (removed n s) ix'
      watched_except = watched_after (removed n s) (found_except n s.members h.rising) None refl clear (λ _. refl)

    module _ (locs : List Loc) (told : map (λ (l : Loc). l.0) locs ≡ untouched m.standing) where
      listed_here : (k : ℕ) → lists ix k n ≡ among k locs
      listed_here k = listed_at k ∙ ap (has k) (sym told) ∙ list_any-map (λ (l : Loc). l.0) (λ j. j == k) locs

      -- it watches nothing any more
      pub cleared : {ix' : BTreeSet (ℕ × ℕ)} → IsListedAfter n (λ k. not (among k locs && not false) && lists ix k n) ix ix' → IsListedAfter n (λ _. false) ix ix'
      cleared step = listed_as step (λ k. cleared_table (among k locs) (lists ix k n) (listed_here k))

      -- a new list in place of that one
      pub watched_noted : (to : Transition M) (list : List Loc) → untouched (after_transition to m).standing ≡ map (λ (l : Loc). l.0) list → {mid ix' : BTreeSet (ℕ × ℕ)}
          → IsListedAfter n (λ k. among k list || lists ix k n) ix mid
          → IsListedAfter n (λ k. not (among k locs && not (among k list)) && lists mid k n) mid ix' → IsWatched (turned_at n to s) ix'
      watched_noted to list u {mid} first then =
          watched_after (turned_at n to s) (found_altered n (after_transition to) (turned_number to) s.members) (Some (after_transition to m))
          (ap (option_map (after_transition to)) found) (listed_then first then)
          (λ k. noted_table (among k list) (among k locs) (lists ix k n) (lists mid k n) (listed_here k) (first.here k)
          ∙ sym (ap (has k) u ∙ list_any-map (λ (l : Loc). l.0) (λ q. q == k) list))

      -- a list that found no memory
      pub watched_refused : (list : List Loc) {mid ix' : BTreeSet (ℕ × ℕ)} → IsBetween n list ix mid
          → IsListedAfter n (λ k. not (among k list && not (among k locs)) && lists mid k n) mid ix' → IsWatched s ix'
      watched_refused list {mid} between then =
          let edit : IsFoundAfter n (λ o. o) s.members s.members = record { here = refl; others = λ _ _. refl; rising = λ r. r } in
          let first : IsListedAfter n (λ k. lists mid k n) ix mid = record { here = λ _. refl; others = between.others } in
          watched_after s edit (Some m) found (listed_then first then)
          (λ k. refused_table (among k list) (among k locs) (lists ix k n) (lists mid k n) (listed_here k) (between.had k) (between.elsewhere k) ∙ listed_at k)
