-- A seat's row and entries when it takes the turn and gives it, and the rows at the end: for callers.
use Rattle.std.proofs.Common.{◌≡◌, ℕ, ◌<◌, ◌≤◌, List, ◌++◌, length, map, set, Option, Some, slice_get, option_map, sym, ap, ◌∙◌, inl, inr, ⊎_elim, subst}
use Rattle.std.proofs.lemmas.Bool.{cases_lt}
use Rattle.std.proofs.lemmas.List.{append_cancel_left}
use Rattle.std.proofs.lemmas.Option.{slice_get-map}
use Rattle.ame_baton.specs.declared.view.Knows.{Knows}
use Rattle.ame_baton.specs.declared.view.LastSeen.{LastSeen}
use Rattle.ame_baton.specs.Seats.{entries_by, Takes, Gives, HasEnded}
use Rattle.ame_baton.specs.Keeping.{KeepsSeat, FindsAsLeft, HasGiven, ShowsRows, ShowsEntries, IsLeftOrEmpty}
use Rattle.ame_baton.proofs.Lookups.{get_set_here, get_there, get_within}
use Rattle.ame_baton.proofs.Staying.{entries_of_others}
use Rattle.ame_baton.proofs.Taking.{and_of, row_now, stands_now}

some_is : {A : Type 0} (a b : A) → Some a ≡ Some b → a ≡ b
some_is a b e = cc

-- what two steps keep
pub keeps_both : {F R E : Type 0} (a b c : Knows F R E) → KeepsSeat a b → KeepsSeat b c → KeepsSeat a c
keeps_both a b c p q = record {
  number = q.number ∙ p.number;
  fixed = q.fixed ∙ p.fixed;
  seats = q.seats ∙ p.seats;
  made = q.made ∙ p.made;
  ended = q.ended ∙ p.ended;
}

module _ {S F R E : Type 0} (stands_for : S → F → List R → List E → Type 0) (seat_of : E → ℕ) where
  pub take_finds : (before after : Knows F R E) (state : S) → Takes stands_for seat_of before state after → FindsAsLeft seat_of before after
  take_finds before after state t = let same = t.rest in let number = ap (λ (k : Knows F R E). k.number) same in let row = ap (λ (k : Knows F R E). k.row) same in record {
    keeps = record {
      number = number;
      fixed = ap (λ (k : Knows F R E). k.fixed) same;
      seats = ap (λ (k : Knows F R E). k.seats) same;
      made = ap (λ (k : Knows F R E). k.made) same;
      ended = ap (λ (k : Knows F R E). k.ended) same;
    };
    holds = ap (λ (k : Knows F R E). k.holds) same;
    row = row;
    own = ap (λ (k : Knows F R E). k.own) same;
    found = row_now stands_for seat_of before after state t ∙ ap Some row;
    goes_on = t.stays.goes_on;
    each = ap (λ n. entries_by seat_of n after.seen) number ∙ t.stays.own;
    others = t.stays.goes_on.0;
    seen = sym t.stays.goes_on.1;
    apart = entries_of_others seat_of before.number before.seen t.stays.goes_on.0 after.seen before.own (sym t.stays.goes_on.1) t.stays.seen t.stays.own;
  }

  module _ (leaves : R → Type 0) where
    pub give_leaves : (before after : Knows F R E) (state : S) → Gives stands_for seat_of leaves before state after → HasGiven seat_of leaves before after
    give_leaves before after state g = let it = g.0 in let same = g.1 in record {
      keeps = record {
        number = ap (λ (k : Knows F R E). k.number) same;
        fixed = ap (λ (k : Knows F R E). k.fixed) same;
        seats = ap (λ (k : Knows F R E). k.seats) same;
        made = ap (λ (k : Knows F R E). k.made) same;
        ended = ap (λ (k : Knows F R E). k.ended) same;
      };
      free = ap (λ (k : Knows F R E). k.holds) same;
      row = subst leaves (sym (ap (λ (k : Knows F R E). k.row) same)) it.leaves_row;
      added = it.added;
      by_seat = it.by_seat;
      seen = ap (λ (k : Knows F R E). k.seen) same;
      own = ap (λ (k : Knows F R E). k.own) same;
    }

    -- if the state determines its entries
    pub entries_given : (entries_in : S → List E) → ShowsEntries stands_for entries_in → (before holding after : Knows F R E) (taken given : S) → Takes stands_for seat_of before taken holding
        → Gives stands_for seat_of leaves holding given after → (added : List E) → entries_in given ≡ entries_in taken ++ added → after.own ≡ before.own ++ added
    entries_given entries_in shows before holding after taken given t g added is =
        let it = g.0 in
        let seen : entries_in taken ≡ holding.seen = and_of (λ f. stands_for taken f holding.rows holding.seen) (entries_in taken ≡ holding.seen) holding.fixed
        (λ f h. shows taken f holding.rows holding.seen h) (stands_now stands_for seat_of before holding taken t) in
        let now : entries_in given ≡ holding.seen ++ it.added = and_of (λ f. stands_for given f (set holding.rows holding.number it.row) (holding.seen ++ it.added)) (entries_in given ≡ holding.seen ++ it.added) holding.fixed
        (λ f h. shows given f (set holding.rows holding.number it.row) (holding.seen ++ it.added) h) it.stands in
        let same : it.added ≡ added = append_cancel_left holding.seen it.added added (sym now ∙ (is ∙ ap (λ l. l ++ added) seen)) in
        ap (λ (k : Knows F R E). k.own) g.1 ∙ (ap (λ l. holding.own ++ l) same ∙ ap (λ (k : Knows F R E). k.own ++ added) t.rest)

    -- if the state determines what its rows show
    module _ {T : Type 0} (shown : R → T) (rows_in : S → List T) (shows : ShowsRows stands_for shown rows_in) (before holding after : Knows F R E) (taken given : S)
        (t : Takes stands_for seat_of before taken holding) (g : Gives stands_for seat_of leaves holding given after) where
      rows_taken : rows_in taken ≡ map shown holding.rows
      rows_taken = and_of (λ f. stands_for taken f holding.rows holding.seen) (rows_in taken ≡ map shown holding.rows) holding.fixed
          (λ f h. shows taken f holding.rows holding.seen h) (stands_now stands_for seat_of before holding taken t)

      rows_given : rows_in given ≡ map shown (set holding.rows holding.number g.0.row)
      rows_given = and_of (λ f. stands_for given f (set holding.rows holding.number g.0.row) (holding.seen ++ g.0.added)) (rows_in given ≡ map shown (set holding.rows holding.number g.0.row)) holding.fixed
          (λ f h. shows given f (set holding.rows holding.number g.0.row) (holding.seen ++ g.0.added) h) g.0.stands

      number_is : after.number ≡ holding.number
      number_is = ap (λ (k : Knows F R E). k.number) g.1

      row_is : after.row ≡ g.0.row
      row_is = ap (λ (k : Knows F R E). k.row) g.1

      pub row_given : slice_get (rows_in given) after.number ≡ Some (shown after.row)
      row_given =
          let within = get_within holding.rows holding.number holding.row (row_now stands_for seat_of before holding taken t) in
          ap (slice_get (rows_in given)) number_is ∙ ap (λ l. slice_get l holding.number) rows_given ∙ slice_get-map shown (set holding.rows holding.number g.0.row) holding.number
          ∙ ap (option_map shown) (get_set_here holding.rows holding.number g.0.row within) ∙ ap (λ r. Some (shown r)) (sym row_is)

      pub row_kept : slice_get (rows_in given) before.number ≡ slice_get (rows_in taken) before.number → shown after.row ≡ shown before.row
      row_kept same =
          let finds = take_finds before holding taken t in
          let was : slice_get (rows_in taken) before.number ≡ Some (shown before.row) = ap (slice_get (rows_in taken)) (sym finds.keeps.number) ∙ ap (λ l. slice_get l holding.number) rows_taken
          ∙ slice_get-map shown holding.rows holding.number ∙ ap (option_map shown) finds.found in
          some_is (shown after.row) (shown before.row) (sym row_given ∙ ap (slice_get (rows_in given)) (number_is ∙ finds.keeps.number) ∙ same ∙ was)

module _ {S F R E : Type 0} (stands_for : S → F → List R → List E → Type 0) (empty : R) (seat_of : E → ℕ) (fixed : Option F) (seats : List (LastSeen R E)) (state : S) (e : HasEnded stands_for empty seat_of fixed seats state) where
  pub row_at_end : (n : ℕ) (row : R) → slice_get e.rows n ≡ Some row → IsLeftOrEmpty empty seats n row
  row_at_end n row at = ⊎_elim (λ (lt : n < length seats). let there = get_there seats n lt in inl (there.0, there.1, some_is row there.0.row (sym at ∙ (e.stays n there.0 there.1).row)))
      (λ (le : length seats ≤ n). inr (le, (e.not_made n le).row row at)) (cases_lt n (length seats))
