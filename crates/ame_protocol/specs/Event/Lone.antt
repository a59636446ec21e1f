-- With one seat nothing is met that another seat did.
use Rattle.std.specs.Prelude.{◌≡◌, ℕ}
use Rattle.ame_rows.specs.MemoryView.{row_at}
use Rattle.ame_protocol.specs.Row.SeatRun.{AreValid}
use Rattle.ame_protocol.specs.declared.types.Attempt.{Attempt}
use Rattle.ame_protocol.specs.declared.types.Task.{Task}
use Rattle.ame_protocol.specs.Engine.Parts.{Parts, heap_in, task_at}
use Rattle.ame_protocol.specs.declared.counters.Counters.{Counters}

-- No write met a cell of another seat, and no read was found that isn't valid.
pub record IsUndisturbed (counters : Counters) : Type 0 where
  pub conflicts : counters.conflicts ≡ 0
  pub invalids : counters.invalids ≡ 0

-- With one seat it is so, and while that seat runs protected code each of its reads is valid.
pub record IsLone (parts : Parts) (counters : Counters) : Type 0 where
  pub counts : parts.limits.seats ≡ 1 → IsUndisturbed counters
  pub valid : parts.limits.seats ≡ 1 → (seat : ℕ) (attempt : Attempt) → task_at parts.tasks seat ≡ Task.Running attempt
      → AreValid (heap_in parts) seat (row_at parts.memory.rows seat).reads
