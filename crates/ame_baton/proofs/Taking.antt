-- A seat that took the turn: what it knows, and what it may give: for callers.
use Rattle.std.proofs.Common.{◌≡◌, ℕ, zero, suc, List, [], ◌∷◌, ◌++◌, set, All, Option, Some, None, IsSomeAnd, slice_get, sym, refl, ap, ◌∙◌, subst}
use Rattle.ame_baton.specs.declared.view.Knows.{Knows}
use Rattle.ame_baton.specs.Seats.{Takes, MayGive}

pub set_again : {A : Type 0} (l : List A) (i : ℕ) (a : A) → slice_get l i ≡ Some a → set l i a ≡ l
set_again [] i a e = refl
set_again (x ∷ xs) zero a e = let is : a ≡ x = cc in ap (λ y. y ∷ xs) is
set_again (x ∷ xs) (suc i) a e = ap (λ l. x ∷ l) (set_again xs i a e)

-- what follows from a fact about the fixed part
pub and_so : {F : Type 0} (P Q : F → Type 0) (o : Option F) → ((f : F) → P f → Q f) → IsSomeAnd o P → IsSomeAnd o Q
and_so P Q None so h = absurd h
and_so P Q (Some f) so h = so f h

pub and_of : {F : Type 0} (P : F → Type 0) (X : Type 0) (o : Option F) → ((f : F) → P f → X) → IsSomeAnd o P → X
and_of P X None so h = absurd h
and_of P X (Some f) so h = so f h

module _ {S F R E : Type 0} (stands_for : S → F → List R → List E → Type 0) (seat_of : E → ℕ) (k : Knows F R E) where
  -- what the state stands for in the seat's eyes
  abbrev pub Stands : S → F → Type 0
  Stands state f = stands_for state f k.rows k.seen

  -- one row changes, and entries of the seat are added
  pub may_give : (leaves : R → Type 0) (old new : S) (row : R) (added : List E) → IsSomeAnd k.fixed (Stands old) → leaves row → All (λ e. seat_of e ≡ k.number) added
      → ((f : F) → Stands old f → stands_for new f (set k.rows k.number row) (k.seen ++ added)) → MayGive stands_for seat_of leaves k new
  may_give leaves old new row added stands left all so = record {
    row = row;
    added = added;
    stands = and_so (Stands old) (λ f. stands_for new f (set k.rows k.number row) (k.seen ++ added)) k.fixed so stands;
    by_seat = all;
    leaves_row = left;
  }

module _ {S F R E : Type 0} (stands_for : S → F → List R → List E → Type 0) (seat_of : E → ℕ) (before after : Knows F R E) (state : S) (taken : Takes stands_for seat_of before state after) where
  pub stands_now : IsSomeAnd after.fixed (λ f. stands_for state f after.rows after.seen)
  stands_now = subst (λ (o : Option F). IsSomeAnd o (λ f. stands_for state f after.rows after.seen)) (sym (ap (λ (x : Knows F R E). x.fixed) taken.rest)) taken.stands

  pub row_now : slice_get after.rows after.number ≡ Some after.row
  row_now = ap (λ (x : Knows F R E). slice_get after.rows x.number) taken.rest ∙ (taken.stays.row ∙ ap (λ (x : Knows F R E). Some x.row) (sym taken.rest))
