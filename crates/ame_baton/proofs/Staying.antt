-- The row and entries left under one number, if another seat or the same one writes its row and adds entries.
use Rattle.std.proofs.Common.{◌≡◌, ◌≢◌, ℕ, ◌<◌, ◌==◌, eq-eqb, ne_eqb, List, [], ◌∷◌, ◌++◌, length, All, set, sym, refl, ap, ◌∙◌}
use Rattle.std.proofs.lemmas.List.{append-nil, append_cancel_left}
use mathlib.Core.List.{IsPrefix}
use Rattle.std.proofs.lemmas.List.Elements.{filter-append, All-nil, All-cons, All-head, All-tail}
use Rattle.ame_baton.specs.declared.view.LastSeen.{LastSeen}
use Rattle.ame_baton.specs.Seats.{entries_by, IsThereAsLeft, IsUntouched}
use Rattle.ame_baton.proofs.Lookups.{get_set_here, get_set_else, prefix_self, prefix_more}

none_first : {E : Type 0} (xs ys : List E) → xs ++ ys ≡ [] → xs ≡ []
none_first [] ys e = refl
none_first (x ∷ xs) ys e = cc

not_cons : {E : Type 0} (x : E) (xs : List E) → x ∷ xs ≡ [] → ⊥
not_cons x xs e = cc

module _ {E : Type 0} (seat_of : E → ℕ) where
  pub entries_own : (n : ℕ) (added : List E) → All (λ e. seat_of e ≡ n) added → entries_by seat_of n added ≡ added
  entries_own n [] all = refl
  entries_own n (e ∷ es) all =
      let here = eq-eqb (seat_of e) n (All-head (λ e. seat_of e ≡ n) e es all) in
      let later = entries_own n es (All-tail (λ e. seat_of e ≡ n) e es all) in
      rw here (ap (λ w. e ∷ w) later)

  pub entries_none : (n m : ℕ) (added : List E) → m ≢ n → All (λ e. seat_of e ≡ n) added → entries_by seat_of m added ≡ []
  entries_none n m [] ne all = refl
  entries_none n m (e ∷ es) ne all =
      let here = ne_eqb (seat_of e) m (λ is. ne (sym is ∙ All-head (λ e. seat_of e ≡ n) e es all)) in
      let later = entries_none n m es ne (All-tail (λ e. seat_of e ≡ n) e es all) in
      rw here later

  -- the entries of another number, after new ones of the number n
  pub entries_else : (n m : ℕ) (entries added : List E) → m ≢ n → All (λ e. seat_of e ≡ n) added → entries_by seat_of m (entries ++ added) ≡ entries_by seat_of m entries
  entries_else n m entries added ne all =
      filter-append (λ e. seat_of e == m) entries added ∙ (ap (λ w. entries_by seat_of m entries ++ w) (entries_none n m added ne all) ∙ append-nil (entries_by seat_of m entries))

  entries_here : (n : ℕ) (entries own added : List E) → All (λ e. seat_of e ≡ n) added → entries_by seat_of n entries ≡ own
      → entries_by seat_of n (entries ++ added) ≡ own ++ added
  entries_here n entries own added all is =
      filter-append (λ e. seat_of e == n) entries added ∙ (ap (λ w. w ++ entries_by seat_of n added) is ∙ ap (λ w. own ++ w) (entries_own n added all))

  -- if no entry is of a number, none was before
  pub entries_before : (n : ℕ) (seen entries : List E) → IsPrefix seen entries → entries_by seat_of n entries ≡ [] → entries_by seat_of n seen ≡ []
  entries_before n seen entries goes none =
      none_first (entries_by seat_of n seen) (entries_by seat_of n goes.0)
      (sym (filter-append (λ e. seat_of e == n) seen goes.0) ∙ (ap (entries_by seat_of n) goes.1 ∙ none))

  -- where entries go on and those of a number don't, all new ones are of others
  entries_apart : (n : ℕ) (added : List E) → entries_by seat_of n added ≡ [] → All (λ e. seat_of e ≢ n) added
  entries_apart n [] none = All-nil (λ e. seat_of e ≢ n)
  entries_apart n (e ∷ es) none =
      let here : seat_of e ≢ n = λ is. not_cons e (entries_by seat_of n es) (sym (entries_first n e es is) ∙ none) in
      All-cons (λ e. seat_of e ≢ n) e es here (entries_apart n es (sym (entries_later n e es here) ∙ none))
    where
      entries_first : (n : ℕ) (e : E) (es : List E) → seat_of e ≡ n → entries_by seat_of n (e ∷ es) ≡ e ∷ entries_by seat_of n es
      entries_first n e es is = let here = eq-eqb (seat_of e) n is in rw here refl

      entries_later : (n : ℕ) (e : E) (es : List E) → seat_of e ≢ n → entries_by seat_of n (e ∷ es) ≡ entries_by seat_of n es
      entries_later n e es ne = let here = ne_eqb (seat_of e) n ne in rw here refl

  pub entries_of_others : (n : ℕ) (seen added entries own : List E) → entries ≡ seen ++ added → entries_by seat_of n seen ≡ own → entries_by seat_of n entries ≡ own
      → All (λ e. seat_of e ≢ n) added
  entries_of_others n seen added entries own is before after =
      entries_apart n added
      (append_cancel_left own (entries_by seat_of n added) []
      (ap (λ w. w ++ entries_by seat_of n added) (sym before)
      ∙ (sym (filter-append (λ e. seat_of e == n) seen added) ∙ (ap (entries_by seat_of n) (sym is) ∙ (after ∙ sym (append-nil own))))))

module _ {R E : Type 0} (seat_of : E → ℕ) where
  pub stays_else : (n m : ℕ) (it : LastSeen R E) (rows : List R) (entries : List E) (row : R) (added : List E) → m ≢ n → All (λ e. seat_of e ≡ n) added
      → IsThereAsLeft seat_of m it rows entries → IsThereAsLeft seat_of m it (set rows n row) (entries ++ added)
  stays_else n m it rows entries row added ne all s = record {
    row = get_set_else rows n m row ne ∙ s.row;
    goes_on = prefix_more it.seen entries added s.goes_on;
    own = entries_else seat_of n m entries added ne all ∙ s.own;
    seen = s.seen;
  }

  pub stays_here : (n : ℕ) (rows : List R) (entries own : List E) (row : R) (added : List E) → n < length rows → All (λ e. seat_of e ≡ n) added → entries_by seat_of n entries ≡ own
      → IsThereAsLeft seat_of n (record { row = row; seen = entries ++ added; own = own ++ added }) (set rows n row) (entries ++ added)
  stays_here n rows entries own row added lt all is = record {
    row = get_set_here rows n row lt;
    goes_on = prefix_self (entries ++ added);
    own = entries_here seat_of n entries own added all is;
    seen = entries_here seat_of n entries own added all is;
  }

  pub untouched_else : (empty : R) (n m : ℕ) (rows : List R) (entries : List E) (row : R) (added : List E) → m ≢ n → All (λ e. seat_of e ≡ n) added
      → IsUntouched empty seat_of m rows entries → IsUntouched empty seat_of m (set rows n row) (entries ++ added)
  untouched_else empty n m rows entries row added ne all u = record {
    row = λ r e. u.row r (sym (get_set_else rows n m row ne) ∙ e);
    none = entries_else seat_of n m entries added ne all ∙ u.none;
  }
