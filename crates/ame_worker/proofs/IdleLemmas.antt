-- Slots of seats that have nothing at work.
use Rattle.std.proofs.Common.{◌≡◌, ℕ, zero, suc, ◌+◌, ◌<◌, ◌≤◌, ◌⊎◌, inl, inr, List, [], ◌∷◌, map, get_or, refl, sym, ap, ◌∙◌, subst}
use Rattle.std.specs.Prelude.{replicate}
use Rattle.std.specs.List.{range_with_len}
use Rattle.std.proofs.lemmas.Bool.{cases_lt}
use Rattle.std.proofs.lemmas.List.{get_or_past, get_or-replicate, length-replicate}
use Rattle.std.proofs.lemmas.Option.{unwrap_or-slice_get}
use Rattle.ame_term.specs.Tree.{Val, Tree}
use Rattle.ame_rows.specs.MemoryView.{Log, no_log, row_at}
use Rattle.ame_protocol.specs.declared.types.Task.{Task}
use Rattle.ame_protocol.specs.Engine.Parts.{Parts, task_at}
use Rattle.ame_worker.specs.Slots.{Slot, empty_slot, start_of, slot_at}

-- slots with the same task, logs and term are the same
pub slot-same : (a b : Slot) → a.task ≡ b.task → a.notes ≡ b.notes → a.start ≡ b.start → a ≡ b
slot-same a b task notes start =
    ap (λ (t : Task). let it : Slot = record { task = t; notes = a.notes; start = a.start } in it) task
    ∙ ap (λ (n : Log Val). let it : Slot = record { task = b.task; notes = n; start = a.start } in it) notes
    ∙ ap (λ (s : Tree). let it : Slot = record { task = b.task; notes = b.notes; start = s } in it) start

-- a seat that is idle and has no logs
pub idle-slot : (parts : Parts) (seat : ℕ) → task_at parts.tasks seat ≡ Task.Idle → row_at parts.memory.rows seat ≡ no_log → slot_at parts seat ≡ empty_slot
idle-slot parts seat task notes = slot-same (slot_at parts seat) empty_slot task notes (ap (start_of parts.pool) task)

-- At the opening

pub map-all-same : {X : Type 0} (f : ℕ → X) (x : X) → ((k : ℕ) → f k ≡ x) → (a n : ℕ) → map f (range_with_len a n) ≡ replicate n x
map-all-same f x same a zero = refl
map-all-same f x same a (suc n) = ap (λ y. y ∷ map f (range_with_len (a + 1) n)) (same a) ∙ ap (λ ys. x ∷ ys) (map-all-same f x same (a + 1) n)

pub replicate-at : {X : Type 0} (n i : ℕ) (x : X) → get_or (replicate n x) i x ≡ x
replicate-at n i x = by (cases_lt i n)
  where
    by : (i < n) ⊎ (n ≤ i) → get_or (replicate n x) i x ≡ x
    by (inl within) = get_or-replicate n i x x within
    by (inr beyond) = get_or_past (replicate n x) i x (subst (λ (m : ℕ). m ≤ i) (sym (length-replicate n x)) beyond)

-- of an engine on which nothing was run
pub record AreUnused (parts : Parts) : Type 0 where
  pub tasks : parts.tasks ≡ replicate parts.limits.seats Task.Idle
  pub rows : parts.memory.rows ≡ replicate parts.limits.seats no_log
  pub entries : parts.entries ≡ []

pub unused-slot : (parts : Parts) → AreUnused parts → (seat : ℕ) → slot_at parts seat ≡ empty_slot
unused-slot parts u seat =
    idle-slot parts seat (ap (λ (ts : List Task). task_at ts seat) u.tasks ∙ replicate-at parts.limits.seats seat Task.Idle)
    (ap (λ (rs : List (Log Val)). row_at rs seat) u.rows
    ∙ unwrap_or-slice_get (replicate parts.limits.seats no_log) seat no_log ∙ replicate-at parts.limits.seats seat no_log)
