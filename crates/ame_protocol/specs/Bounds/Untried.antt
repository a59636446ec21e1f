-- An engine without tries, as one of one seat is until a stop leaves its row untold.
use Rattle.std.specs.Prelude.{◌≡◌, ℕ, Bool, true, []}
use Rattle.ame_protocol.specs.declared.types.Task.{Task}
use Rattle.ame_protocol.specs.Engine.Parts.{Parts, task_at}

-- An entry was added for a row that is undone, and once a stop is kept for each row at work.
abbrev pub IsToldOf : Bool → Task → Type 0
IsToldOf stopped Task.Idle = Unit {0}
IsToldOf stopped (Task.Running attempt) = stopped ≡ true → attempt.logged ≡ true
IsToldOf stopped (Task.Free attempt) = stopped ≡ true → attempt.logged ≡ true
IsToldOf stopped (Task.Undoing attempt reason) = attempt.logged ≡ true

-- there is no try, and no row that would leave one
pub record IsUntried (parts : Parts) : Type 0 where
  pub none : parts.tried ≡ []
  pub told : (seat : ℕ) → IsToldOf parts.stopped (task_at parts.tasks seat)
