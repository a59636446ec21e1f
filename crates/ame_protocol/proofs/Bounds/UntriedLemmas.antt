-- An engine stays without tries.
use Rattle.std.proofs.Common.{◌≡◌, ℕ, ◌+◌, ◌<◌, ◌⊎◌, inl, inr, Bool, true, false, List, [], ◌∷◌, ◌++◌, set, Some, refl, sym, ap, ◌∙◌, subst, arith}
use Rattle.std.specs.Prelude.{if◌then◌else◌}
use Rattle.ame_pool.specs.Calls.{held}
use Rattle.ame_pool.specs.Keeps.{is_inside_at}
use Rattle.ame_rows.specs.LettingGo.{undone_last}
use Rattle.ame_protocol.proofs.Row.CellLemmas.{which}
use Rattle.ame_machine.specs.Run.Local.{LocalState}
use Rattle.ame_term.specs.Frame.{Side}
use Rattle.ame_protocol.specs.declared.types.Attempt.{Attempt}
use Rattle.ame_protocol.specs.declared.types.UndoReason.{UndoReason}
use Rattle.ame_protocol.specs.declared.types.Task.{Task}
use Rattle.ame_protocol.specs.Engine.Parts.{Parts, task_at, attempt_of}
use Rattle.ame_protocol.specs.Engine.Simulates.{Simulates}
use Rattle.ame_protocol.specs.Engine.Events.{has_begun, fresh_attempt, begun_task, has_undone, has_gone_home, with_try, has_stopped}
use Rattle.ame_protocol.proofs.Engine.StepLemmas.{acted, seat_within, task_here, task_else}
use Rattle.ame_protocol.proofs.Engine.HomeLemmas.{gone_parts}
use Rattle.ame_protocol.specs.Visits.Stops.{MayBeNoted, told_attempt, has_been_cut}
use Rattle.ame_protocol.specs.Bounds.Untried.{IsToldOf, IsUntried}
use Rattle.ame_protocol.proofs.Bounds.FewLemmas.{within, here}

pub idle-untried : (parts : Parts) → parts.tried ≡ [] → ((k : ℕ) → task_at parts.tasks k ≡ Task.Idle) → IsUntried parts
idle-untried parts none idle = record { none = none; told = λ k. subst (IsToldOf parts.stopped) (sym (idle k)) tt }

-- a seat gets another task
pub untried-step : (old new : Parts) → IsUntried old → new.tried ≡ old.tried → new.stopped ≡ old.stopped → (seat : ℕ) (now : Task)
    → task_at new.tasks seat ≡ now → IsToldOf old.stopped now → ((k : ℕ) → (k ≡ seat → ⊥) → task_at new.tasks k ≡ task_at old.tasks k) → IsUntried new
untried-step old new u tried stopped seat now has told others = record {
  none = tried ∙ u.none;
  told = λ k. subst (λ (b : Bool). IsToldOf b (task_at new.tasks k)) (sym stopped) (by k (which k seat));
}
  where
    by : (k : ℕ) → (k ≡ seat) ⊎ ((k ≡ seat) → ⊥) → IsToldOf old.stopped (task_at new.tasks k)
    by k (inl same) = subst (λ (m : ℕ). IsToldOf old.stopped (task_at new.tasks m)) (sym same) (subst (IsToldOf old.stopped) (sym has) told)
    by k (inr apart) = subst (IsToldOf old.stopped) (sym (others k apart)) (u.told k)

-- Begins and stops

module _ (parts : Parts) (s : Simulates parts) (u : IsUntried parts) (going : parts.stopped ≡ false) (seat number : ℕ) (there : seat < parts.limits.seats) where
  abbrev begun : Task → Parts
  begun task = record parts { pool = held number parts.pool; tasks = set parts.tasks seat task; turns = parts.turns + 1 }

  begun-as : (now : Task) → IsToldOf parts.stopped now → IsUntried (begun now)
  begun-as now told =
      untried-step parts (begun now) u refl refl seat now (let b = s.bounded.tasks in task_here parts.tasks seat now (omega arith)) told
      (λ k apart. task_else parts.tasks seat now k apart)

  pub begin-untried : IsUntried (has_begun seat number parts)
  begin-untried = by (is_inside_at parts.pool.members number)
    where
      clash : parts.stopped ≡ true → (fresh_attempt number parts).logged ≡ true
      clash stopped = absurd (let both : true ≡ false = sym stopped ∙ going in cc)

      by : (b : Bool) → IsUntried (begun (begun_task b (fresh_attempt number parts)))
      by true = begun-as (Task.Free (fresh_attempt number parts)) clash
      by false = begun-as (Task.Running (fresh_attempt number parts)) clash

told-of : (task : Task) → ((attempt : Attempt) → attempt_of task ≡ Some attempt → attempt.logged ≡ true) → IsToldOf true task
told-of Task.Idle all = tt
told-of (Task.Running attempt) all = λ stopped. all attempt refl
told-of (Task.Free attempt) all = λ stopped. all attempt refl
told-of (Task.Undoing attempt reason) all = all attempt refl

pub stop-untried : (parts : Parts) → IsUntried parts
    → ((seat : ℕ) (attempt : Attempt) → attempt_of (task_at parts.tasks seat) ≡ Some attempt → attempt.logged ≡ true) → IsUntried (has_stopped parts)
stop-untried parts u all = record { none = u.none; told = λ k. told-of (task_at parts.tasks k) (all k) }

-- A seat that has a member at work

module _ (parts : Parts) (s : Simulates parts) (u : IsUntried parts) (seat : ℕ) (attempt : Attempt) (was : Task)
    (had : task_at parts.tasks seat ≡ was) (its : attempt_of was ≡ Some attempt) where
  pub next-untried : (new : Parts) (now : Task) → new.tried ≡ parts.tried → new.stopped ≡ parts.stopped → new.tasks ≡ set parts.tasks seat now
      → IsToldOf parts.stopped now → IsUntried new
  next-untried new now tried stopped tasks told =
      untried-step parts new u tried stopped seat now
      (ap (λ (ts : List Task). task_at ts seat) tasks ∙ here parts s seat attempt (ap attempt_of had ∙ its) now) told
      (λ k apart. ap (λ (ts : List Task). task_at ts k) tasks ∙ task_else parts.tasks seat now k apart)

  module _ (told : attempt.logged ≡ true) (reason : UndoReason) where
    pub undone-untried : IsUntried (has_undone seat attempt reason parts)
    undone-untried = by parts.stopped
      where
        all : (turns : ℕ) → IsUntried (acted (undone_last seat parts.memory) (set parts.tasks seat (Task.Undoing attempt reason)) turns parts)
        all turns =
            next-untried (acted (undone_last seat parts.memory) (set parts.tasks seat (Task.Undoing attempt reason)) turns parts)
            (Task.Undoing attempt reason) refl refl refl told

        by : (b : Bool) → IsUntried (if b then acted (undone_last seat parts.memory) (set parts.tasks seat (Task.Undoing attempt reason)) parts.turns parts
            else acted (undone_last seat parts.memory) (set parts.tasks seat (Task.Undoing attempt reason)) (parts.turns + 1) parts)
        by true = all parts.turns
        by false = all (parts.turns + 1)

    no-try : with_try attempt parts.tried ≡ parts.tried
    no-try = ap (λ (b : Bool). if b then parts.tried else parts.tried ++ attempt.tried ∷ []) told

    pub home-untried : IsUntried (has_gone_home seat attempt reason parts)
    home-untried = by parts.stopped
      where
        all : (turns : ℕ) → IsUntried (gone_parts seat attempt reason turns parts)
        all turns = next-untried (gone_parts seat attempt reason turns parts) Task.Idle no-try refl refl tt

        by : (b : Bool) → IsUntried (if b then gone_parts seat attempt reason parts.turns parts else gone_parts seat attempt reason (parts.turns + 1) parts)
        by true = all parts.turns
        by false = all (parts.turns + 1)

-- The only seat's row is cut off

module _ (parts : Parts) (s : Simulates parts) (u : IsUntried parts) (lone : parts.limits.seats ≡ 1) (seat : ℕ) where
  -- If the only seat is at work, every other one is idle.
  others-idle : seat < parts.limits.seats → (k : ℕ) → (k ≡ seat → ⊥) → task_at parts.tasks k ≡ Task.Idle
  others-idle there k apart = by (task_at parts.tasks k) refl
    where
      busy : (attempt : Attempt) → attempt_of (task_at parts.tasks k) ≡ Some attempt → ⊥
      busy attempt e =
          let w = seat_within parts.tasks k attempt e in let b = s.bounded.tasks in apart (let same : k ≡ seat = omega arith in same)

      by : (task : Task) → task_at parts.tasks k ≡ task → task_at parts.tasks k ≡ Task.Idle
      by Task.Idle e = e
      by (Task.Running attempt) e = absurd (busy attempt (ap attempt_of e))
      by (Task.Free attempt) e = absurd (busy attempt (ap attempt_of e))
      by (Task.Undoing attempt reason) e = absurd (busy attempt (ap attempt_of e))

  cut-as : (new : Parts) (was now : Task) (attempt : Attempt) → task_at parts.tasks seat ≡ was → attempt_of was ≡ Some attempt
      → new.tried ≡ parts.tried → new.tasks ≡ set parts.tasks seat now → IsToldOf new.stopped now → IsUntried new
  cut-as new was now attempt had its tried tasks told =
      let has = ap attempt_of had ∙ its in
      record { none = tried ∙ u.none; told = λ k. by k has (which k seat) }
    where
      by : (k : ℕ) → attempt_of (task_at parts.tasks seat) ≡ Some attempt → (k ≡ seat) ⊎ ((k ≡ seat) → ⊥) → IsToldOf new.stopped (task_at new.tasks k)
      by k has (inl same) =
          let is = ap (λ (ts : List Task). task_at ts seat) tasks ∙ here parts s seat attempt has now in
          subst (λ (m : ℕ). IsToldOf new.stopped (task_at new.tasks m)) (sym same) (subst (IsToldOf new.stopped) (sym is) told)
      by k has (inr apart) =
          let is = ap (λ (ts : List Task). task_at ts k) tasks ∙ task_else parts.tasks seat now k apart
          ∙ others-idle (within parts s seat attempt has) k apart in
          subst (IsToldOf new.stopped) (sym is) tt

  pub cut-untried : (task : Task) (side : Side) (number n : ℕ) (p : LocalState) → task_at parts.tasks seat ≡ task
      → MayBeNoted parts seat task side number n p → IsUntried (has_been_cut seat number n p task parts)
  cut-untried _ _ _ _ _ had (MayBeNoted.running attempt n p used valid) =
      cut-as (has_been_cut seat attempt.tried.number n p (Task.Running attempt) parts) (Task.Running attempt) (Task.Running (told_attempt attempt)) attempt
      had refl refl refl (λ stopped. refl)
  cut-untried _ _ _ _ _ had (MayBeNoted.free attempt n p steps) =
      cut-as (has_been_cut seat attempt.tried.number n p (Task.Free attempt) parts) (Task.Free attempt) (Task.Free (told_attempt attempt)) attempt had refl
      refl refl (λ stopped. refl)
