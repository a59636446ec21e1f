-- Room for a run by workers.
use Rattle.std.specs.Prelude.{◌≡◌, ℕ, ◌≤◌, [], All, vec_len, vec_capacity}
use Rattle.std.specs.Arc.{arc_value}
use Rattle.ame_team.specs.declared.worker_room.WorkerRoom.{WorkerRoom}

-- A share of this code for each of these seats, and room for their workers and for them.
pub record IsRoomFor {M K D C V : Type 0} (code : C) (seats : ℕ) (room : WorkerRoom M K D C V) : Type 0 where
  pub codes : All (λ it. arc_value it ≡ code) room.codes.items
  pub count : vec_len room.codes ≡ seats
  pub no_workers : room.workers.items ≡ []
  pub workers : seats ≤ vec_capacity room.workers
  pub no_seats : room.seats.items ≡ []
  pub places : seats ≤ vec_capacity room.seats
