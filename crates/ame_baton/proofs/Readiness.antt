-- Seats in the order of their numbers, and what they left.
use Rattle.std.proofs.Common.{◌≡◌, ℕ, zero, suc, ◌+◌, List, [], ◌∷◌, ◌++◌, length, map, Some, slice_get, refl, ap, ◌∙◌, ⊎_elim, subst, arith}
use Rattle.ame_baton.specs.declared.view.Knows.{Knows}
use Rattle.ame_baton.specs.declared.view.LastSeen.{LastSeen}
use Rattle.ame_baton.specs.declared.seats.SeatAt.{SeatAt}
use Rattle.ame_baton.specs.declared.turn.Baton.{Baton}
use Rattle.ame_baton.specs.Seats.{left_by, IsThereAsLeft, HasEnded}
use Rattle.ame_baton.specs.Rule.{OthersStay, Popped}
use Rattle.ame_baton.specs.Batons.{IsReadySeat, AreReady}

module _ {S F R E : Type 0} (baton : Baton S F R E) (n : ℕ) (seat : SeatAt S F R E) (seats : List (SeatAt S F R E)) where
  pub ready_head : AreReady baton n (seat ∷ seats) → IsReadySeat baton n seat
  ready_head ready = let P : ℕ → Type 0 = λ k. IsReadySeat baton k seat in let e : n + 0 ≡ n = omega arith in subst P e (ready 0 seat refl)

  pub ready_tail : AreReady baton n (seat ∷ seats) → AreReady baton (n + 1) seats
  ready_tail ready i s e = let P : ℕ → Type 0 = λ k. IsReadySeat baton k s in let e' : n + suc i ≡ n + 1 + i = omega arith in subst P e' (ready (suc i) s e)

pub length_map : {A B : Type 0} (f : A → B) (l : List A) → length (map f l) ≡ length l
length_map f [] = refl
length_map f (x ∷ xs) = ap suc (length_map f xs)

pub map_snoc : {A B : Type 0} (f : A → B) (l : List A) (x : A) → map f l ++ f x ∷ [] ≡ map f (l ++ x ∷ [])
map_snoc f [] x = refl
map_snoc f (y ∷ ys) x = ap (λ l. f y ∷ l) (map_snoc f ys x)

pub kept_more : {A F R E : Type 0} (before now next : Knows F R E) (f : A → LastSeen R E) (ys : List A) (y : A) → now ≡ record before { ended = map f ys } → next ≡ record now { ended = now.ended ++ f y ∷ [] }
    → next ≡ record before { ended = map f (ys ++ y ∷ []) }
kept_more {A} {F} {R} {E} before now next f ys y is more = let grown : Knows F R E → Knows F R E = λ k. record k { ended = k.ended ++ f y ∷ [] } in
    let ended : List (LastSeen R E) → Knows F R E = λ l. record before { ended = l } in more ∙ (ap grown is ∙ ap ended (map_snoc f ys y))

module _ {S F R E : Type 0} (stands_for : S → F → List R → List E → Type 0) (empty : R) (seat_of : E → ℕ) (first : Knows F R E) (left : List (LastSeen R E)) where
  -- what the first seat pops then is the end
  pub ends : (state : S) (after : Knows F R E) → first.number ≡ 0 → first.made ≡ length left + 1 → Popped stands_for empty seat_of (record first { ended = left }) state after
      → HasEnded stands_for empty seat_of first.fixed (left_by first ∷ left) state
  ends state after zero_is all p = let o = p.others zero_is in record {
    rows = after.rows;
    entries = after.seen;
    stands = p.takes.stands;
    stays = each o;
    not_made = λ n le. o.not_made n (omega arith);
  } where
    each : OthersStay empty seat_of (record first { ended = left }) after.rows after.seen → (n : ℕ) (it : LastSeen R E) → slice_get (left_by first ∷ left) n ≡ Some it → IsThereAsLeft seat_of n it after.rows after.seen
    each o zero it e = let is : left_by first ≡ it = cc in subst (λ (y : ℕ × LastSeen R E). IsThereAsLeft seat_of y.0 y.1 after.rows after.seen) (λ i. (zero_is i, is i)) p.takes.stays
    each o (suc n) it e = let P : ℕ → Type 0 = λ k. IsThereAsLeft seat_of k it after.rows after.seen in let e' : n + 1 ≡ suc n = omega arith in subst P e' (o.ended n it e)
