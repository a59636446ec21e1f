-- A seat whose member isn't exhausted turns back, and exhausted members still run alone.
use Rattle.std.proofs.Common.{◌≡◌, ℕ, ◌+◌, Bool, true, false, refl, sym, ap, ◌∙◌}
use Rattle.ame_pool.specs.Begin.{is_exhausted}
use Rattle.ame_pool.specs.Calls.{IsAt}
use Rattle.ame_protocol.specs.declared.types.Attempt.{Attempt}
use Rattle.ame_protocol.specs.declared.types.UndoReason.{UndoReason}
use Rattle.ame_protocol.specs.declared.types.Task.{Task}
use Rattle.ame_protocol.specs.Engine.Parts.{Parts, task_at, attempt_of}
use Rattle.ame_protocol.specs.Engine.Alone.{is_of_protected, RunsExclusively}
use Rattle.ame_protocol.specs.Engine.Events.{has_turned_back}
use Rattle.ame_protocol.proofs.Engine.AloneEvents.{undone-alone, back-alone}

pub turned_alone : (parts : Parts) → RunsExclusively parts → (seat : ℕ) (attempt : Attempt) → task_at parts.tasks seat ≡ Task.Running attempt
    → (parts.stopped ≡ false → IsAt is_exhausted attempt.tried.number parts.pool → ⊥) → RunsExclusively (has_turned_back seat attempt parts)
turned_alone parts a seat attempt task fresh = by parts.stopped refl
  where
    by : (b : Bool) → parts.stopped ≡ b → RunsExclusively (has_turned_back seat attempt parts)
    by true e =
        undone-alone parts a seat attempt (ap attempt_of task) (ap is_of_protected task) (Task.Undoing attempt UndoReason.RolledBack) attempt refl refl
        parts.memory (parts.turns + 1) (λ going _. let clash : true ≡ false = sym e ∙ going in cc)
    by false e =
        back-alone parts a seat attempt (ap attempt_of task) (ap is_of_protected task) (Task.Undoing attempt UndoReason.RolledBack) attempt refl refl
        parts.memory (parts.turns + 1) (fresh e)
