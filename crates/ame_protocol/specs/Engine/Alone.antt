-- A member that was rolled back as often as it may be runs alone.
use Rattle.std.specs.Prelude.{◌≡◌, ℕ, Bool, true, false, Some}
use Rattle.ame_pool.specs.Begin.{is_exhausted}
use Rattle.ame_pool.specs.Calls.{IsAt}
use Rattle.ame_protocol.specs.Row.SeatRun.{AreValid}
use Rattle.ame_protocol.specs.declared.types.Attempt.{Attempt}
use Rattle.ame_protocol.specs.declared.types.Task.{Task}
use Rattle.ame_protocol.specs.Engine.Parts.{Parts, heap_in, task_at, attempt_of, run_in}

-- whether a task is of protected code, which runs or is undone
abbrev pub is_of_protected : Task → Bool
is_of_protected Task.Idle = false
is_of_protected (Task.Running attempt) = true
is_of_protected (Task.Free attempt) = false
is_of_protected (Task.Undoing attempt reason) = true

-- a seat has such a member at work, as protected code
pub record IsExhausted (parts : Parts) (seat : ℕ) (attempt : Attempt) : Type 0 where
  pub task : is_of_protected (task_at parts.tasks seat) ≡ true
  pub has : attempt_of (task_at parts.tasks seat) ≡ Some attempt
  pub exhausted : IsAt is_exhausted attempt.tried.number parts.pool

-- It is the only one that is at work as protected code. Until a stop is kept its row runs, and each of its reads is valid.
pub record RunsExclusively (parts : Parts) : Type 0 where
  pub alone : (seat other : ℕ) (attempt : Attempt) → IsExhausted parts seat attempt → is_of_protected (task_at parts.tasks other) ≡ true → other ≡ seat
  pub running : parts.stopped ≡ false → (seat : ℕ) (attempt : Attempt) → IsExhausted parts seat attempt → task_at parts.tasks seat ≡ Task.Running attempt
  pub valid : parts.stopped ≡ false → (seat : ℕ) (attempt : Attempt) → IsExhausted parts seat attempt
      → AreValid (heap_in parts) seat (run_in parts seat attempt.tried.number).reads
