-- Each busy member stays one that a seat has at work.
use Rattle.std.proofs.Common.{List, None, Option, Some, ap, inl, inr, length, set, subst, sym, ℕ, ◌<◌, ◌∙◌, ◌≡◌, ◌⊎◌}
use Rattle.ame_pool.specs.Calls.{IsAt}
use Rattle.ame_pool.specs.Members.{is_busy}
use Rattle.ame_protocol.specs.Engine.Parts.{Parts, member_of, task_at}
use Rattle.ame_protocol.specs.declared.types.Task.{Task}
use Rattle.ame_protocol.proofs.Engine.StepLemmas.{task_else, task_here}
use Rattle.ame_protocol.proofs.Row.CellLemmas.{which}
use Rattle.ame_protocol.specs.Event.Seated.{AreSeated}
use Rattle.ame_protocol.proofs.Event.PoolLemmas.{LeavesBusy}

-- No member is busy.
pub seated-none : (parts : Parts) → ((i : ℕ) → IsAt is_busy i parts.pool → ⊥) → AreSeated parts
seated-none parts none = λ i busy. absurd (none i busy)

-- The tasks stay, and each busy member was busy before.
pub seated-still : (old new : Parts) → new.tasks ≡ old.tasks → ((i : ℕ) → IsAt is_busy i new.pool → IsAt is_busy i old.pool) → AreSeated old → AreSeated new
seated-still old new tasks before seated = λ i busy.
    let its = seated i (before i busy) in (its.0, ap (λ (ts : List Task). member_of (task_at ts its.0)) tasks ∙ its.1)

-- An event of a seat

module _ (old new : Parts) (seat : ℕ) (next : Task) (tasks : new.tasks ≡ set old.tasks seat next) (there : seat < length old.tasks)
    (seated : AreSeated old) where
  here : task_at new.tasks seat ≡ next
  here = ap (λ (ts : List Task). task_at ts seat) tasks ∙ task_here old.tasks seat next there

  elsewhere : (k : ℕ) → (k ≡ seat → ⊥) → task_at new.tasks k ≡ task_at old.tasks k
  elsewhere k apart = ap (λ (ts : List Task). task_at ts k) tasks ∙ task_else old.tasks seat next k apart

  -- it goes on with its member
  pub seated-on : member_of next ≡ member_of (task_at old.tasks seat) → ((i : ℕ) → IsAt is_busy i new.pool → IsAt is_busy i old.pool) → AreSeated new
  seated-on same before i busy = by (seated i (before i busy)).0 (seated i (before i busy)).1 (which (seated i (before i busy)).0 seat)
    where
      by : (k : ℕ) → member_of (task_at old.tasks k) ≡ Some i → (k ≡ seat) ⊎ ((k ≡ seat) → ⊥) → (k : ℕ) × (member_of (task_at new.tasks k) ≡ Some i)
      by k its (inl is) = (seat, ap member_of here ∙ same ∙ ap (λ (m : ℕ). member_of (task_at old.tasks m)) (sym is) ∙ its)
      by k its (inr apart) = (k, ap member_of (elsewhere k apart) ∙ its)

  -- it sends its member home, or away
  pub seated-home : (number : ℕ) → member_of (task_at old.tasks seat) ≡ Some number → LeavesBusy old.pool new.pool number → AreSeated new
  seated-home number had leaves i busy = by (seated i (leaves.before i busy)).0 (seated i (leaves.before i busy)).1
      (which (seated i (leaves.before i busy)).0 seat)
    where
      by : (k : ℕ) → member_of (task_at old.tasks k) ≡ Some i → (k ≡ seat) ⊎ ((k ≡ seat) → ⊥) → (k : ℕ) × (member_of (task_at new.tasks k) ≡ Some i)
      by k its (inl is) =
          let both : Some number ≡ Some i = sym had ∙ ap (λ (m : ℕ). member_of (task_at old.tasks m)) (sym is) ∙ its in
          let one : i ≡ number = cc in
          absurd (leaves.gone (subst (λ (m : ℕ). IsAt is_busy m new.pool) one busy))
      by k its (inr apart) = (k, ap member_of (elsewhere k apart) ∙ its)

  -- it was idle, and has begun one
  pub seated-begun : (number : ℕ) → task_at old.tasks seat ≡ Task.Idle → member_of next ≡ Some number
      → ((i : ℕ) → (i ≡ number → ⊥) → IsAt is_busy i new.pool → IsAt is_busy i old.pool) → AreSeated new
  seated-begun number idle begins before i busy = by (which i number)
    where
      other : (k : ℕ) → member_of (task_at old.tasks k) ≡ Some i → (k : ℕ) × (member_of (task_at new.tasks k) ≡ Some i)
      other k its = (
        k,
        ap member_of (elsewhere k (λ is.
            let clash : ◌≡◌ {A = Option ℕ} None (Some i) = sym (ap member_of idle) ∙ ap (λ (m : ℕ). member_of (task_at old.tasks m))
            (sym is) ∙ its in cc)) ∙ its,
      )

      by : (i ≡ number) ⊎ ((i ≡ number) → ⊥) → (k : ℕ) × (member_of (task_at new.tasks k) ≡ Some i)
      by (inl is) = (seat, ap member_of here ∙ begins ∙ ap Some (sym is))
      by (inr apart) = let its = seated i (before i apart busy) in other its.0 its.1
