-- An engine at its end.
use Rattle.std.proofs.Common.{◌≡◌, ℕ, ◌⊎◌, inl, inr, Bool, cond, List, [], ◌∷◌, Option, Some, None, refl, sym, ap, ◌∙◌, subst}
use Rattle.std.specs.Prelude.{option_map}
use Rattle.std.proofs.lemmas.Bool.{eq-eqb}
use Rattle.ame_term.specs.Tree.{Val, Tree}
use Rattle.ame_term.specs.Maps.{at}
use Rattle.ame_laws.proofs.MapLemmas.{is_at-here}
use Rattle.ame_pool.specs.declared.member.Member.{Member}
use Rattle.ame_pool.specs.Members.{find}
use Rattle.ame_store.specs.Cells.{IsFree, IsOwnedBy, IsDead}
use Rattle.ame_rows.specs.MemoryView.{Log, no_log, row_at}
use Rattle.ame_protocol.specs.Row.Heap.{cell_at, IsLive}
use Rattle.ame_protocol.specs.Row.UndoLog.{IsUndoLog}
use Rattle.ame_protocol.proofs.Row.CellLemmas.{free_or_owned, live_or_dead}
use Rattle.ame_protocol.proofs.Row.SettledLemmas.{nothing-owned}
use Rattle.ame_protocol.specs.declared.types.Task.{Task}
use Rattle.ame_protocol.specs.Engine.Parts.{Parts, heap_in, task_at}
use Rattle.ame_protocol.specs.Engine.Tasks.{MeetsTask}
use Rattle.ame_protocol.specs.Engine.Simulates.{Simulates}
use Rattle.ame_protocol.proofs.Engine.MemoryLemmas.{memory-committed, memory-undo_log}
use Rattle.ame_protocol.specs.Visits.Opened.{stored_in}
use Rattle.ame_protocol.proofs.Visits.OpenLemmas.{stored-live, stored-dead}

pub idle-clear : (parts : Parts) (s : Simulates parts) (seat : ℕ) → task_at parts.tasks seat ≡ Task.Idle → row_at parts.memory.rows seat ≡ no_log
idle-clear parts s seat idle = subst (MeetsTask parts s.types seat) idle (s.seats seat)

module _ (parts : Parts) (s : Simulates parts) (idle : (seat : ℕ) → task_at parts.tasks seat ≡ Task.Idle) (l : ℕ) where
  pub all-free : IsFree (cell_at (heap_in parts) l)
  all-free = by (free_or_owned (cell_at (heap_in parts) l))
    where
      owns-nothing : (seat : ℕ) → IsOwnedBy seat (cell_at (heap_in parts) l) → ⊥
      owns-nothing seat =
          nothing-owned (heap_in parts) seat
          (subst (IsUndoLog (heap_in parts) seat) (ap (λ (n : Log Val). n.undos) (idle-clear parts s seat (idle seat)))
          (memory-undo_log parts.memory s.consistent seat)) l

      by : IsFree (cell_at (heap_in parts) l) ⊎ ((owner : ℕ) × IsOwnedBy owner (cell_at (heap_in parts) l)) → IsFree (cell_at (heap_in parts) l)
      by (inl free) = free
      by (inr x) = absurd (owns-nothing x.0 x.1)

  pub all-stored : at s.r.state.store l ≡ stored_in (cell_at (heap_in parts) l)
  all-stored = sym (s.stands.store l) ∙ by (live_or_dead (cell_at (heap_in parts) l))
    where
      by : IsLive (cell_at (heap_in parts) l) ⊎ IsDead (cell_at (heap_in parts) l)
          → (heap_in parts).committed l ≡ stored_in (cell_at (heap_in parts) l)
      by (inl live) = (memory-committed parts.memory).free l live all-free ∙ sym (stored-live (cell_at (heap_in parts) l) live)
      by (inr dead) = (memory-committed parts.memory).dead l dead ∙ sym (stored-dead (cell_at (heap_in parts) l) dead)

-- Members

no-entries : (es : List (ℕ × Tree)) → ((k : ℕ) → at es k ≡ None) → es ≡ []
no-entries [] none = refl
no-entries (e ∷ es) none =
    let here : at (e ∷ es) e.0 ≡ Some e.1 = rw (is_at-here e.0) refl in
    absurd (let clash : ◌≡◌ {A = Option Tree} None (Some e.1) = sym (none e.0) ∙ here in cc)

no-members : (ms : List (Member Tree)) → ((k : ℕ) → option_map (λ (m : Member Tree). m.machine) (find k ms) ≡ None) → ms ≡ []
no-members [] none = refl
no-members (m ∷ ms) none =
    let here : find m.number (m ∷ ms) ≡ Some m = ap (λ (b : Bool). cond b (Some m) (find m.number ms)) (eq-eqb m.number m.number refl) in
    absurd (let clash : ◌≡◌ {A = Option Tree} None (Some m.machine) = sym (none m.number) ∙ ap (option_map (λ (x : Member Tree). x.machine)) here in cc)

pub state-empty : (parts : Parts) (s : Simulates parts) → parts.pool.members ≡ [] → s.r.state.members ≡ []
state-empty parts s empty =
    no-entries s.r.state.members
    (λ k. s.stands.members k ∙ ap (λ (ms : List (Member Tree)). option_map (λ (m : Member Tree). m.machine) (find k ms)) empty)

pub pool-empty : (parts : Parts) (s : Simulates parts) → s.r.state.members ≡ [] → parts.pool.members ≡ []
pool-empty parts s empty =
    no-members parts.pool.members (λ k. sym (s.stands.members k) ∙ ap (λ (es : List (ℕ × Tree)). at es k) empty)
