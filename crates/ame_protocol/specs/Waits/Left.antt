-- The waiting members after an event of a seat.
use Rattle.std.specs.Prelude.{◌≡◌, ℕ, List, Contains, Some}
use Rattle.ame_pool.specs.Calls.{machine_of}
use Rattle.ame_protocol.specs.Row.Framed.{IsFramed}
use Rattle.ame_protocol.specs.Engine.Parts.{Parts, whole_journal, heap_in, task_at, member_of}
use Rattle.ame_protocol.specs.Waits.Waiting.{watched_by, last_stuck}

-- the other seats' cells are framed, and their tasks stay
pub record LeavesOthers (old new : Parts) (seat : ℕ) : Type 0 where
  pub framed : (other : ℕ) → (other ≡ seat → ⊥) → IsFramed other (heap_in old) (heap_in new)
  pub tasks : (other : ℕ) → (other ≡ seat → ⊥) → task_at new.tasks other ≡ task_at old.tasks other

-- a member's term and its last note stay, and so does what is committed at the locations that it watches
pub record StaysNoted (old new : Parts) (number : ℕ) (watched : List ℕ) : Type 0 where
  pub machine : machine_of number new.pool ≡ machine_of number old.pool
  pub last : last_stuck number (whole_journal new) ≡ last_stuck number (whole_journal old)
  pub committed : (l : ℕ) → Contains watched l → (heap_in new).committed l ≡ (heap_in old).committed l

-- a member waited before too, and not by the seat of the event
pub record HasWaited (old new : Parts) (seat number : ℕ) (watched : List ℕ) : Type 0 where
  pub before : watched_by number old.pool ≡ Some watched
  pub stays : StaysNoted old new number watched
  pub apart : member_of (task_at old.tasks seat) ≡ Some number → ⊥
