-- A baton and its seats, as clauses speak of them.
use Rattle.std.specs.Prelude.{◌≡◌, ℕ, ◌+◌, false, List, Some, map, slice_get}
use Rattle.crossbeam_queue.specs.Passes.{view, IsPassOf}
use Rattle.ame_baton.specs.declared.view.Knows.{Knows}
use Rattle.ame_baton.specs.declared.view.LastSeen.{LastSeen}
use Rattle.ame_baton.specs.declared.seats.SeatAt.{SeatAt}
use Rattle.ame_baton.specs.declared.turn.Baton.{Baton}
use Rattle.ame_baton.specs.Seats.{left_by}

-- what the seat knows
abbrev pub knows : {S F R E : Type 0} → SeatAt S F R E → Knows F R E
knows seat = view seat.pass

-- what each seat left
abbrev pub left_by_each : {S F R E : Type 0} → List (SeatAt S F R E) → List (LastSeen R E)
left_by_each seats = map (λ seat. left_by (knows seat)) seats

-- this baton made the seat
abbrev pub IsSeatOf : {S F R E : Type 0} → Baton S F R E → SeatAt S F R E → Type 0
IsSeatOf baton seat = IsPassOf baton.queue seat.pass

-- the seat is this baton's, has this number and doesn't hold the turn
pub record IsReadySeat {S F R E : Type 0} (baton : Baton S F R E) (number : ℕ) (seat : SeatAt S F R E) : Type 0 where
  pub of : IsSeatOf baton seat
  pub numbered : (knows seat).number ≡ number
  pub free : (knows seat).holds ≡ false

-- the seats stand in the order of their numbers, the first of them with the number `from`, and are ready
abbrev pub AreReady : {S F R E : Type 0} → Baton S F R E → ℕ → List (SeatAt S F R E) → Type 0
AreReady {S} {F} {R} {E} baton from seats =
    (i : ℕ) (seat : SeatAt S F R E) → slice_get seats i ≡ Some seat → IsReadySeat baton (from + i) seat
