-- The turns stay paid: starts, begins, access and checks.
use Rattle.std.proofs.Common.{◌≡◌, ℕ, zero, suc, ◌+◌, ◌-◌, ◌/◌, ◌<◌, ◌≤◌, ◌⊎◌, inl, inr, Bool, true, false, List, [], ◌∷◌, ◌++◌, length, set, replicate, Option, Some, None, refl, sym, ap, ◌∙◌, subst, arith}
use Rattle.std.proofs.Math.Nat.{add-div_right}
use Rattle.std.proofs.lemmas.List.{length-append}
use Rattle.ame_term.specs.Tree.{Val, Tree}
use Rattle.ame_term.specs.Act.{Act}
use Rattle.ame_term.specs.declared.types.Loc.{Loc}
use Rattle.ame_term.specs.declared.types.Sort.{Sort}
use Rattle.ame_term.specs.declared.types.TyNo.{TyNo}
use Rattle.ame_store.specs.Cells.{IsFree, IsOwnedBy}
use Rattle.ame_rows.specs.declared.notes.Undo.{Undo}
use Rattle.ame_rows.specs.declared.notes.Undo.TheVariants.{Wrote, Made}
use Rattle.ame_pool.specs.Calls.{held}
use Rattle.ame_pool.specs.Keeps.{is_inside_at}
use Rattle.ame_machine.specs.Run.Local.{LocalState}
use Rattle.ame_rows.specs.MemoryView.{MemoryView, Log, no_log, row_at}
use Rattle.ame_rows.specs.Access.{next_place, written_by, allocated_by}
use Rattle.ame_rows.proofs.LookupLemmas.{row_set_else}
use Rattle.ame_protocol.specs.Row.Heap.{cell_at}
use Rattle.ame_protocol.specs.Row.SeatRun.{SeatRun, HasUsed, ComesTo}
use Rattle.ame_protocol.specs.Row.Own.{given_one, given_outside, given_undo}
use Rattle.ame_protocol.specs.declared.types.Attempt.{Attempt}
use Rattle.ame_protocol.specs.declared.types.UndoReason.{UndoReason}
use Rattle.ame_protocol.specs.declared.types.Task.{Task}
use Rattle.ame_protocol.specs.Engine.Logged.{logged_run, read_by}
use Rattle.ame_protocol.specs.Engine.Parts.{Parts, heap_in, task_at, attempt_of, term_at, run_in}
use Rattle.ame_protocol.specs.Engine.Tasks.{MeetsTask}
use Rattle.ame_protocol.specs.Engine.Simulates.{Simulates}
use Rattle.ame_protocol.specs.Engine.Events.{has_begun, fresh_attempt, begun_task, checked_attempt, has_read, has_written, has_allocated, has_checked, has_turned_back}
use Rattle.ame_protocol.proofs.Engine.AccessLemmas.{read-there, write-there}
use Rattle.ame_protocol.proofs.Engine.MemoryEvents.{read-outside, read-own, first-run, later-run, allocation-run}
use Rattle.ame_protocol.proofs.Engine.StepLemmas.{acted, task_here, task_else, owned_or_not}
use Rattle.ame_protocol.specs.Bounds.Spent.{used_at, allowance, undos_left, IsToldInTime, HasPaidTurns}
use Rattle.ame_protocol.proofs.Bounds.SeatLemmas.{over-none}
use Rattle.ame_protocol.proofs.Bounds.FewLemmas.{within, here}
use Rattle.ame_protocol.proofs.Bounds.InputLemmas.{used-inputs}
use Rattle.ame_protocol.proofs.Bounds.PaidLemmas.{paid-step, untold}

-- Starts

pub row-clear : (n k : ℕ) → ◌≡◌ {A = Log Val} (row_at (replicate n no_log) k) no_log
row-clear zero k = refl
row-clear (suc n) zero = refl
row-clear (suc n) (suc k) = row-clear n k

no-attempt : (attempt : Attempt) → attempt_of Task.Idle ≡ Some attempt → ⊥
no-attempt attempt e = let clash : ◌≡◌ {A = Option Attempt} None (Some attempt) = e in cc

pub idle-paid : (parts : Parts) → 1 ≤ parts.limits.slice → parts.turns ≡ 0 → ((k : ℕ) → task_at parts.tasks k ≡ Task.Idle)
    → ((k : ℕ) → row_at parts.memory.rows k ≡ no_log) → HasPaidTurns parts
idle-paid parts slice none idle clear = record {
  some_slice = slice;
  turns =
      let h =
      over-none parts.limits.seats (λ k. undos_left (row_at parts.memory.rows k) (task_at parts.tasks k))
      (λ k. ap (λ (task : Task). undos_left (row_at parts.memory.rows k) task) (idle k)) in
      omega arith;
  inputs = λ k attempt e. absurd (no-attempt attempt (sym (ap attempt_of (idle k)) ∙ e));
  undos = λ k. subst (λ (notes : Log Val). length notes.undos ≤ length notes.inputs) (sym (clear k)) (omega arith);
  told = λ going k. subst IsToldInTime (sym (idle k)) tt;
}

-- Begins

module _ (parts : Parts) (s : Simulates parts) (a : HasPaidTurns parts) (seat number : ℕ) (idle : task_at parts.tasks seat ≡ Task.Idle)
    (there : seat < parts.limits.seats) where
  abbrev fresh : Attempt
  fresh = fresh_attempt number parts

  abbrev begun : Task → Parts
  begun task = record parts { pool = held number parts.pool; tasks = set parts.tasks seat task; turns = parts.turns + 1 }

  clear : row_at parts.memory.rows seat ≡ no_log
  clear = subst (MeetsTask parts s.types seat) idle (s.seats seat)

  begun-as : (now : Task) → undos_left (row_at parts.memory.rows seat) now ≡ 0 → 1 ≤ allowance parts.limits.slice (row_at parts.memory.rows seat) now
      → IsToldInTime now → HasPaidTurns (begun now)
  begun-as now none some told =
      paid-step parts (begun now) a seat Task.Idle now (record {
        within = there;
        limits = refl;
        had = idle;
        has = let b = s.bounded.tasks in task_here parts.tasks seat now (omega arith);
        tasks = λ k apart. task_else parts.tasks seat now k apart;
        rows = λ k apart. refl;
        turns = omega arith;
        inputs = λ attempt e. let h = ap (λ (notes : Log Val). length notes.inputs) clear in let z = a.some_slice in omega arith;
        undos = a.undos seat;
        going = λ h. h;
        told = λ h. told;
      })

  pub begin-paid : HasPaidTurns (has_begun seat number parts)
  begin-paid = by (is_inside_at parts.pool.members number)
    where
      by : (b : Bool) → HasPaidTurns (begun (begun_task b fresh))
      by true = begun-as (Task.Free fresh) refl (omega arith) refl
      by false = begun-as (Task.Running fresh) refl (omega arith) refl

-- One input more

one-more : {X : Type 0} (xs : List X) (x : X) → length (xs ++ x ∷ []) ≡ length xs + 1
one-more xs x = length-append xs (x ∷ []) ∙ omega arith

module _ (parts : Parts) (s : Simulates parts) (a : HasPaidTurns parts) (going : parts.stopped ≡ false) (seat : ℕ) (attempt : Attempt)
    (task : task_at parts.tasks seat ≡ Task.Running attempt) where
  abbrev number : ℕ
  number = attempt.tried.number

  abbrev row : Log Val
  row = row_at parts.memory.rows seat

  told : attempt.logged ≡ false
  told = subst IsToldInTime task (a.told going seat)

  in_rows : seat < length parts.memory.rows
  in_rows = let h = within parts s seat attempt (ap attempt_of task) in let b = s.bounded.rows in omega arith

  access-paid : (memory : MemoryView Val) → ((k : ℕ) → (k ≡ seat → ⊥) → row_at memory.rows k ≡ row_at parts.memory.rows k)
      → length (row_at memory.rows seat).inputs ≡ length row.inputs + 1 → length (row_at memory.rows seat).undos ≤ length row.undos + 1
      → length row.inputs < attempt.tried.steps + parts.limits.slice → HasPaidTurns (acted memory parts.tasks (parts.turns + 1) parts)
  access-paid memory rows more undo fits =
      let new = acted memory parts.tasks (parts.turns + 1) parts in
      let slice = parts.limits.slice in
      paid-step parts new a seat (Task.Running attempt) (Task.Running attempt) (record {
        within = within parts s seat attempt (ap attempt_of task);
        limits = refl;
        had = task;
        has = task;
        tasks = λ k apart. refl;
        rows = rows;
        turns =
            let old = untold attempt.logged (used_at slice row attempt) told in
            let now = untold attempt.logged (used_at slice (row_at memory.rows seat) attempt) told in omega arith;
        inputs = λ x e.
            let same : attempt ≡ x = cc in let steps = ap (λ (t : Attempt). t.tried.steps) same in omega arith;
        undos = let h = a.undos seat in omega arith;
        going = λ h. h;
        told = λ h. told;
      })

  module _ (n : ℕ) (p : LocalState) (early : n < attempt.tried.steps + parts.limits.slice) where
    abbrev run : SeatRun
    run = run_in parts seat number

    few-inputs : HasUsed run n p → length row.inputs < attempt.tried.steps + parts.limits.slice
    few-inputs used = let h = used-inputs run n p used in omega arith

    abbrev start : Tree
    start = term_at parts.pool number

    -- by what the run of the row becomes
    run-paid : (memory : MemoryView Val) (next : SeatRun) → ((k : ℕ) → (k ≡ seat → ⊥) → row_at memory.rows k ≡ row_at parts.memory.rows k)
        → logged_run start (row_at memory.rows seat) ≡ next → length next.inputs ≡ length row.inputs + 1 → length next.undos ≤ length row.undos + 1
        → HasUsed run n p → HasPaidTurns (acted memory parts.tasks (parts.turns + 1) parts)
    run-paid memory next rows is more undo used =
        let i = ap (λ (r : SeatRun). length r.inputs) is in let u = ap (λ (r : SeatRun). length r.undos) is in
        access-paid memory rows (omega arith) (omega arith) (few-inputs used)

    pub read-paid : (l : Loc) → ComesTo run (Act.Reads l.0) n p → HasPaidTurns (has_read seat l parts)
    read-paid l comes = by (owned_or_not seat (cell_at (heap_in parts) l.0))
      where
        by : IsOwnedBy seat (cell_at (heap_in parts) l.0) ⊎ (IsOwnedBy seat (cell_at (heap_in parts) l.0) → ⊥) → HasPaidTurns (has_read seat l parts)
        by (inl own) =
            run-paid (read_by seat l parts.memory) (given_one (cell_at (heap_in parts) l.0).value run) (λ k apart. row_set_else parts.memory.rows seat k _ apart)
            (read-own parts.memory seat in_rows l (read-there parts s seat attempt task n p l comes).0 own start)
            (one-more row.inputs (cell_at (heap_in parts) l.0).value) (omega arith) comes.place
        by (inr apart) =
            run-paid (read_by seat l parts.memory) (given_outside l (cell_at (heap_in parts) l.0) run) (λ k apart. row_set_else parts.memory.rows seat k _ apart)
            (read-outside parts.memory seat in_rows l (read-there parts s seat attempt task n p l comes).0 apart start)
            (one-more row.inputs (cell_at (heap_in parts) l.0).value) (omega arith) comes.place

    pub first-paid : (l : Loc) (v : Val) → ComesTo run (Act.Writes l.0 v) n p → IsFree (cell_at (heap_in parts) l.0) → HasPaidTurns (has_written seat l v parts)
    first-paid l v comes free =
        let cell = cell_at (heap_in parts) l.0 in
        let undo = one-more row.undos (Wrote l cell.number cell.value) in
        run-paid (written_by seat l v Val.Unit parts.memory) (given_undo Val.Unit (Wrote l cell.number cell.value) run)
        (λ k apart. row_set_else parts.memory.rows seat k _ apart)
        (first-run parts.memory seat l v in_rows (write-there parts s seat attempt task n p l v comes).0 free start)
        (one-more row.inputs Val.Unit) (omega arith) comes.place

    pub later-paid : (l : Loc) (v : Val) → ComesTo run (Act.Writes l.0 v) n p → IsOwnedBy seat (cell_at (heap_in parts) l.0)
        → HasPaidTurns (has_written seat l v parts)
    later-paid l v comes own =
        run-paid (written_by seat l v Val.Unit parts.memory) (given_one Val.Unit run) (λ k apart. row_set_else parts.memory.rows seat k _ apart)
        (later-run parts.memory seat l v in_rows (write-there parts s seat attempt task n p l v comes).0 own start)
        (one-more row.inputs Val.Unit) (omega arith) comes.place

    pub allocation-paid : (sort : Sort) (ty : TyNo) (v : Val) → ComesTo run (Act.Allocates sort ty v) n p → HasPaidTurns (has_allocated seat sort ty v parts)
    allocation-paid sort ty v comes =
        let place : Val = Val.Loc (length parts.memory.cells) in
        let made : Undo Val = Made (next_place parts.memory.cells) in
        let undo = one-more row.undos made in
        run-paid (allocated_by seat sort ty v place parts.memory) (given_undo place made run) (λ k apart. row_set_else parts.memory.rows seat k _ apart)
        (allocation-run parts.memory seat sort ty v in_rows start) (one-more row.inputs place) (omega arith) comes.place

  -- Checks, and the way back

  abbrev with_next : Task → Parts
  with_next now = acted parts.memory (set parts.tasks seat now) (parts.turns + 1) parts

  next-paid : (now : Task) → 1 + allowance parts.limits.slice row (Task.Running attempt) ≤ allowance parts.limits.slice row now → undos_left row now ≡ 0
      → ((x : Attempt) → attempt_of now ≡ Some x → length row.inputs ≤ x.tried.steps + parts.limits.slice) → IsToldInTime now
      → HasPaidTurns (with_next now)
  next-paid now more none inputs told_now =
      paid-step parts (with_next now) a seat (Task.Running attempt) now (record {
        within = within parts s seat attempt (ap attempt_of task);
        limits = refl;
        had = task;
        has = here parts s seat attempt (ap attempt_of task) now;
        tasks = λ k apart. task_else parts.tasks seat now k apart;
        rows = λ k apart. refl;
        turns = omega arith;
        inputs = inputs;
        undos = a.undos seat;
        going = λ h. h;
        told = λ h. told_now;
      })

  pub check-paid : (n : ℕ) → n ≡ attempt.tried.steps + parts.limits.slice → HasPaidTurns (has_checked seat n attempt parts)
  check-paid n full =
      let slice = parts.limits.slice in let c = attempt.tried.steps in
      let next = checked_attempt n attempt parts in
      let old = untold attempt.logged (used_at slice row attempt) told in
      let now = untold attempt.logged (used_at slice row next) told in
      let some : 0 < slice = (let h = a.some_slice in omega arith) in
      let share : n / slice ≡ c / slice + 1 = ap (λ (x : ℕ). x / slice) full ∙ add-div_right c some in
      next-paid (Task.Running next) (omega arith) refl
      (λ x e.
      let same : next ≡ x = cc in let steps = ap (λ (t : Attempt). t.tried.steps) same in
      let h = a.inputs seat attempt (ap attempt_of task) in omega arith)
      told

  pub back-paid : HasPaidTurns (has_turned_back seat attempt parts)
  back-paid =
      let slice = parts.limits.slice in
      let old = untold attempt.logged (used_at slice row attempt) told in
      let now = untold attempt.logged (used_at slice row attempt + (1 + (length row.inputs - length row.undos))) told in
      next-paid (Task.Undoing attempt UndoReason.RolledBack) (omega arith) refl (λ x e. a.inputs seat x (ap attempt_of task ∙ e)) told
