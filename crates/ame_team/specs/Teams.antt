-- The seats of a team of workers.
use Rattle.std.specs.Prelude.{◌≡◌, ℕ, ◌+◌, ◌<◌, false, List, [], length, All, Option, Some, IsSome, slice_get, slice_index_or}
use Rattle.ame_machine.specs.Meaning.{Meaning}
use Rattle.ame_protocol.specs.declared.types.Task.{Task}
use Rattle.ame_protocol.specs.Engine.Parts.{task_at}
use Rattle.ame_engine.specs.Ending.{End, end_of}
use Rattle.ame_shell.specs.Shell.{ShellView}
use Rattle.ame_baton.specs.declared.view.LastSeen.{LastSeen}
use Rattle.ame_baton.specs.Seats.{IsThereAsLeft}
use Rattle.ame_baton.specs.declared.seats.SeatAt.{SeatAt}
use Rattle.ame_baton.specs.declared.turn.Baton.{Baton}
use Rattle.ame_baton.specs.declared.view.Knows.{Knows}
use Rattle.std.specs.Arc.{arc_value}
use Rattle.ame_baton.specs.Batons.{knows, IsSeatOf}
use Rattle.ame_baton.specs.Keeping.{KeepsSeat}
use Rattle.ame_worker.specs.declared.shared.Shared.{Shared}
use Rattle.ame_worker.specs.declared.worker.Worker.{Worker}
use Rattle.ame_worker.specs.Workers.{IsReadyToTurn, IsThrough}
use Rattle.ame_worker.specs.Rows.{SeatRow, empty_row}
use Rattle.ame_worker.specs.Shared.{OpenedView}
use Rattle.ame_worker.specs.Turns.{TurnView, AreTurnsBetween, maker}

-- seat 0 as its baton was made, or as it made others
pub record IsFirstSeat {C V M : Type 0} (made : ℕ) (k : Knows (OpenedView C V M) (SeatRow M) (TurnView C V M)) : Type 0 where
  pub numbered : k.number ≡ 0
  pub free : k.holds ≡ false
  pub row : k.row ≡ empty_row
  pub made_is : k.made ≡ made
  pub none_ended : k.ended ≡ []

-- Among the seats those of the others stand first, in the order of their numbers, and seat 0, which made them, is the last.
pub record IsPlaced {C V M : Type 0} (count place : ℕ) (k : Knows (OpenedView C V M) (SeatRow M) (TurnView C V M)) : Type 0 where
  pub others : place + 1 < count → k.number ≡ place + 1
  pub first : place + 1 ≡ count → (k.number ≡ 0) × (k.made ≡ count)

module _ {S C V M : Type 0} (baton : Baton S (OpenedView C V M) (SeatRow M) (TurnView C V M)) (opened : Option (OpenedView C V M)) (count : ℕ) where
  -- a seat of the baton at its place, which knows what the shell was opened with
  pub record IsSeatAt (place : ℕ) (seat : SeatAt S (OpenedView C V M) (SeatRow M) (TurnView C V M)) : Type 0 where
    pub of : IsSeatOf baton seat
    pub fixed : (knows seat).fixed ≡ opened
    pub placed : IsPlaced count place (knows seat)

-- Turns of the seats of a team led from a shell to one that is at its end: a stop is kept, and no seat has anything at work. Each worker
-- left its row and the turns that it had seen, and the turns of its seat are its own.
pub record HasBeenLedBy {C V M : Type 0} (meaning : Meaning C V M) (seats : ℕ) (first : ShellView C V M) (end : End V) : Type 0 where
  pub last : ShellView C V M
  pub turns : List (TurnView C V M)
  pub follows : AreTurnsBetween meaning first turns last
  pub left : List (LastSeen (SeatRow M) (TurnView C V M))
  pub count : length left ≡ seats
  pub rows : List (SeatRow M)
  pub stays : (n : ℕ) (it : LastSeen (SeatRow M) (TurnView C V M)) → slice_get left n ≡ Some it → IsThereAsLeft maker n it rows turns
  pub by_seats : All (λ t. t.seat < seats) turns
  pub idle : (seat : ℕ) → task_at last.core.tasks seat ≡ Task.Idle
  pub stopped : IsSome last.core.stop
  pub ended : end ≡ end_of last.core

-- As many workers, each with the seat that it had.
pub record KeepSeats {M K D C V : Type 0} (old new : List (Worker M K D C V)) : Type 0 where
  pub count : length new ≡ length old
  pub each : (i : ℕ) (d : Worker M K D C V) → i < length old → KeepsSeat (knows (slice_index_or old i d).seat) (knows (slice_index_or new i d).seat)

module _ {M K D C V : Type 0} (meaning : Meaning C V M) (baton : Baton (Shared M K D C V) (OpenedView C V M) (SeatRow M) (TurnView C V M)) where
  -- each worker has a seat of the baton, and is ready for its turn
  pub record AreReadyToTurn (workers : List (Worker M K D C V)) : Type 0 where
    pub of : All (λ w. IsSeatOf baton w.seat) workers
    pub ready : All (λ w. IsReadyToTurn meaning (arc_value w.code) w.limits (knows w.seat) w.work) workers

-- each worker has worked until it was through
pub record HaveWorked {M K D C V : Type 0} (baton : Baton (Shared M K D C V) (OpenedView C V M) (SeatRow M) (TurnView C V M))
    (old new : List (Worker M K D C V)) : Type 0 where
  pub keeps : (i : ℕ) (d : Worker M K D C V) → i < length old → KeepsSeat (knows (slice_index_or old i d).seat) (knows (slice_index_or new i d).seat)
  pub of : (i : ℕ) (d : Worker M K D C V) → i < length old → IsSeatOf baton (slice_index_or new i d).seat
  pub through : (i : ℕ) (d : Worker M K D C V) → i < length old → IsThrough (knows (slice_index_or new i d).seat)
