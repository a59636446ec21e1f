-- The workers of a team while it is made.
use Rattle.ame_term.specs.Signature.{Signature}
use Rattle.std.proofs.Common.{◌≡◌, ℕ, ◌+◌, ◌<◌, List, ◌++◌, ◌∷◌, [], ◌⊎◌, inl, inr, length, Option, Some, slice_get, sym, ap, subst, arith}
use Rattle.ame_worker.specs.Turns.{TurnView}
use Rattle.ame_baton.specs.declared.turn.Baton.{Baton}
use Rattle.ame_baton.specs.Batons.{knows, IsSeatOf}
use Rattle.ame_worker.specs.Shared.{OpenedView}
use Rattle.ame_worker.specs.declared.shared.Shared.{Shared}
use Rattle.ame_worker.specs.declared.worker.Worker.{Worker}
use Rattle.ame_worker.specs.Rows.{SeatRow}
use Rattle.ame_worker.specs.Workers.{IsSeated}
use Rattle.ame_protocol.specs.declared.types.Limits.{Limits}
use Rattle.ame_baton.specs.declared.view.Knows.{Knows}
use Rattle.ame_baton.specs.Seats.{next_seat}
use Rattle.ame_baton.proofs.Lookups.{get_snoc, get_within}
use Rattle.ame_team.specs.Teams.{IsFirstSeat, IsSeatAt}

-- the seats of the workers are those with the numbers from 1 on, in order
pub record IsOther {M K D C V : Type 0} (baton : Baton (Shared M K D C V) (OpenedView C V M) (SeatRow M) (TurnView C V M)) (opened : Option (OpenedView C V M)) (number : ℕ)
    (w : Worker M K D C V) : Type 0 where
  pub of : IsSeatOf baton w.seat
  pub fixed : (knows w.seat).fixed ≡ opened
  pub numbered : (knows w.seat).number ≡ number

abbrev pub AreOthers : {M K D C V : Type 0} → Baton (Shared M K D C V) (OpenedView C V M) (SeatRow M) (TurnView C V M) → Option (OpenedView C V M) → List (Worker M K D C V) → Type 0
AreOthers {M} {K} {D} {C} {V} baton opened workers =
    (i : ℕ) (w : Worker M K D C V) → slice_get workers i ≡ Some w → IsOther baton opened (i + 1) w

-- the next seat is one of the shell, too
pub next-seated : {C V M : Type 0} (signature : C → Signature) (code : C) (limits : Limits) (k : Knows (OpenedView C V M) (SeatRow M) (TurnView C V M)) (row : SeatRow M) → k.made < limits.seats
    → IsSeated signature code limits k → IsSeated signature code limits (next_seat k row)
next-seated signature code limits k row within s = record {
  opened = s.opened;
  is = s.is;
  of_code = s.of_code;
  of_limits = s.of_limits;
  ranges = s.ranges;
  enough = s.enough;
  number = within;
  seats = s.seats;
}

-- seat 0 made one more
pub first-seated : {C V M : Type 0} (signature : C → Signature) (code : C) (limits : Limits) (k : Knows (OpenedView C V M) (SeatRow M) (TurnView C V M)) (made : ℕ)
    → IsSeated signature code limits k → IsSeated signature code limits (record k { made = made })
first-seated signature code limits k made s = record {
  opened = s.opened;
  is = s.is;
  of_code = s.of_code;
  of_limits = s.of_limits;
  ranges = s.ranges;
  enough = s.enough;
  number = s.number;
  seats = s.seats;
}

pub first-more : {C V M : Type 0} (made : ℕ) (k : Knows (OpenedView C V M) (SeatRow M) (TurnView C V M)) → IsFirstSeat made k → IsFirstSeat (made + 1) (record k { made = k.made + 1 })
first-more made k f = record {
  numbered = f.numbered;
  free = f.free;
  row = f.row;
  made_is = ap (λ (n : ℕ). n + 1) f.made_is;
  none_ended = f.none_ended;
}

module _ {M K D C V : Type 0} (baton : Baton (Shared M K D C V) (OpenedView C V M) (SeatRow M) (TurnView C V M)) (opened : Option (OpenedView C V M)) where
  -- one more worker
  pub others-more : (workers : List (Worker M K D C V)) (w : Worker M K D C V) → AreOthers baton opened workers → IsOther baton opened (length workers + 1) w
      → AreOthers baton opened (workers ++ w ∷ [])
  others-more workers w others is i x e = by (get_snoc workers w x i e)
    where
      by : (slice_get workers i ≡ Some x) ⊎ ((i ≡ length workers) × (w ≡ x)) → IsOther baton opened (i + 1) x
      by (inl before) = others i x before
      by (inr last) =
          subst (λ (y : Worker M K D C V). IsOther baton opened (i + 1) y) last.1
          (subst (λ (n : ℕ). IsOther baton opened (n + 1) w) (sym last.0) is)

  -- and that of seat 0 as the last one
  pub all-placed : (count : ℕ) (workers : List (Worker M K D C V)) (w : Worker M K D C V) → AreOthers baton opened workers → length workers + 1 ≡ count
      → IsSeatOf baton w.seat → (knows w.seat).fixed ≡ opened → (knows w.seat).number ≡ 0 → (knows w.seat).made ≡ count
      → (i : ℕ) (x : Worker M K D C V) → slice_get (workers ++ w ∷ []) i ≡ Some x → IsSeatAt baton opened count i x.seat
  all-placed count workers w others len of fixed zero made i x e = by (get_snoc workers w x i e)
    where
      by : (slice_get workers i ≡ Some x) ⊎ ((i ≡ length workers) × (w ≡ x)) → IsSeatAt baton opened count i x.seat
      by (inl before) =
          let it = others i x before in
          let within = get_within workers i x before in
          record {
            of = it.of;
            fixed = it.fixed;
            placed = record { others = λ h. it.numbered; first = λ h. absurd (omega (arith, h, within, len)) };
          }
      by (inr last) =
          subst (λ (y : Worker M K D C V). IsSeatAt baton opened count i y.seat) last.1
          (let here = last.0 in
          record {
            of = of;
            fixed = fixed;
            placed = record { others = λ h. absurd (omega (arith, h, here, len)); first = λ h. (zero, made) };
          })
