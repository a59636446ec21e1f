-- The turns stay paid: entries, and what follows.
use Rattle.std.proofs.Common.{◌≡◌, ℕ, ◌+◌, ◌*◌, ◌<◌, ◌≤◌, Bool, true, false, List, [], ◌∷◌, ◌++◌, length, set, Option, Some, None, refl, sym, ap, ◌∙◌, subst, arith}
use Rattle.std.specs.Prelude.{ℤ, if◌then◌else◌}
use Rattle.std.proofs.Math.Nat.{div-le_self}
use Rattle.ame_term.specs.Tree.{Val, Tree}
use Rattle.ame_term.specs.Frame.{Side}
use Rattle.ame_term.specs.Act.{Act}
use Rattle.ame_journal.specs.declared.entry.Entry.{Entry}
use Rattle.ame_journal.specs.declared.entry.EntryKind.{EntryKind}
use Rattle.ame_pool.specs.Roster.{Roster}
use Rattle.ame_machine.specs.Run.Local.{LocalState}
use Rattle.ame_rows.specs.MemoryView.{MemoryView, Log, no_log, row_at}
use Rattle.ame_rows.specs.LettingGo.{released_all}
use Rattle.ame_rows.proofs.LookupLemmas.{row_set_here, row_set_else}
use Rattle.ame_protocol.specs.Row.SeatRun.{HasUsed}
use Rattle.ame_protocol.specs.declared.types.Attempt.{Attempt}
use Rattle.ame_protocol.specs.declared.types.UndoReason.{UndoReason}
use Rattle.ame_protocol.specs.declared.types.Task.{Task}
use Rattle.ame_protocol.specs.Engine.Parts.{Parts, task_at, attempt_of, run_in}
use Rattle.ame_protocol.specs.Engine.Tasks.{MeetsTask, Visits}
use Rattle.ame_protocol.specs.Engine.Simulates.{Simulates}
use Rattle.ame_protocol.specs.Engine.Events.{ran_entry, has_ended, has_left}
use Rattle.ame_protocol.proofs.Engine.StepLemmas.{task_else}
use Rattle.ame_protocol.specs.Waits.Noted.{stuck_entry, has_noted}
use Rattle.ame_protocol.specs.Visits.ByAct.{memory_after}
use Rattle.ame_protocol.specs.Visits.Visit.{IsVisit, free_entry, has_visited}
use Rattle.ame_protocol.specs.Visits.Stops.{MayBeNoted, told_attempt, told_task, note_entry}
use Rattle.ame_protocol.specs.Bounds.Spent.{paid, used_at, allowance, undos_left, IsToldInTime, HasPaidTurns}
use Rattle.ame_protocol.proofs.Bounds.SeatLemmas.{over-none}
use Rattle.ame_protocol.proofs.Bounds.FewLemmas.{within, here}
use Rattle.ame_protocol.proofs.Bounds.InputLemmas.{used-inputs}
use Rattle.ame_protocol.proofs.Bounds.PaidLemmas.{paid-step, told-less, paid-entry}

no-attempt : (attempt : Attempt) → attempt_of Task.Idle ≡ Some attempt → ⊥
no-attempt attempt e = let clash : ◌≡◌ {A = Option Attempt} None (Some attempt) = e in cc

-- The entry of a row that runs

module _ (parts : Parts) (s : Simulates parts) (a : HasPaidTurns parts) (seat : ℕ) (attempt : Attempt) (was : Task)
    (had : task_at parts.tasks seat ≡ was) (its : attempt_of was ≡ Some attempt) where
  abbrev row : Log Val
  row = row_at parts.memory.rows seat

  abbrev slice : ℕ
  slice = parts.limits.slice

  has : attempt_of (task_at parts.tasks seat) ≡ Some attempt
  has = ap attempt_of had ∙ its

  pub in_rows : seat < length parts.memory.rows
  in_rows = let h = within parts s seat attempt has in let b = s.bounded.rows in omega arith

  -- what it may have used, by the steps of the entry
  used-less : (n : ℕ) → length row.inputs ≤ n → attempt.tried.steps ≤ n → (if attempt.logged then 0 else used_at slice row attempt) ≤ 1 + (length row.inputs + n)
  used-less n few low =
      let d = div-le_self attempt.tried.steps slice in let t = told-less attempt.logged (used_at slice row attempt) in omega arith

  module _ (entry : Entry) (memory : MemoryView Val) (pool : Roster Tree) (rows : (k : ℕ) → (k ≡ seat → ⊥) → row_at memory.rows k ≡ row_at parts.memory.rows k)
      (undos : length (row_at memory.rows seat).undos ≤ length (row_at memory.rows seat).inputs) where
    pub entry-paid : (now : Task) (output : List ℤ) (next turns : ℕ) (stopped : Bool)
        → turns + (undos_left (row_at memory.rows seat) now + allowance slice row was) ≤ parts.turns + (undos_left row was + 3 * (entry.steps + 1))
        → ((x : Attempt) → attempt_of now ≡ Some x → length (row_at memory.rows seat).inputs ≤ x.tried.steps + slice)
        → (stopped ≡ false → parts.stopped ≡ false) → (stopped ≡ false → IsToldInTime now)
        → HasPaidTurns (record parts {
          memory = memory;
          pool = pool;
          output = output;
          next = next;
          entries = parts.entries ++ entry ∷ [];
          tasks = set parts.tasks seat now;
          turns = turns;
          stopped = stopped;
        })
    entry-paid now output next turns stopped enough inputs going told =
        let new : Parts = record parts {
          memory = memory;
          pool = pool;
          output = output;
          next = next;
          entries = parts.entries ++ entry ∷ [];
          tasks = set parts.tasks seat now;
          turns = turns;
          stopped = stopped;
        } in
        paid-step parts new a seat was now (record {
          within = within parts s seat attempt has;
          limits = refl;
          had = had;
          has = here parts s seat attempt has now;
          tasks = λ k apart. task_else parts.tasks seat now k apart;
          rows = rows;
          turns = let e = paid-entry slice parts.entries entry parts.tried in omega arith;
          inputs = inputs;
          undos = undos;
          going = going;
          told = told;
        })

-- Commits, and notes of a row that runs protected code

module _ (parts : Parts) (s : Simulates parts) (a : HasPaidTurns parts) (seat : ℕ) (attempt : Attempt)
    (task : task_at parts.tasks seat ≡ Task.Running attempt) (n : ℕ) (p : LocalState) (used : HasUsed (run_in parts seat attempt.tried.number) n p)
    (low : attempt.tried.steps ≤ n) where
  abbrev number : ℕ
  number = attempt.tried.number

  abbrev its_row : Log Val
  its_row = row_at parts.memory.rows seat

  its-used : (if attempt.logged then 0 else used_at parts.limits.slice its_row attempt) ≤ 1 + (length its_row.inputs + n)
  its-used = used-less parts s a seat attempt (Task.Running attempt) task refl n (used-inputs (run_in parts seat number) n p used) low

  enough-used : 1 + (0 + (if attempt.logged then 0 else used_at parts.limits.slice its_row attempt)) ≤ 3 * (n + 1)
  enough-used = let h = its-used in let i = used-inputs (run_in parts seat number) n p used in omega arith

  -- a shared memory on which the row is empty
  abbrev released : MemoryView Val
  released = released_all seat parts.memory

  empty : row_at released.rows seat ≡ no_log
  empty = row_set_here parts.memory.rows seat no_log (in_rows parts s a seat attempt (Task.Running attempt) task refl)

  module _ (ls : List ℕ) where
    commit-paid : (pool : Roster Tree) (output : List ℤ) (next : ℕ) → HasPaidTurns (record parts {
      memory = released;
      pool = pool;
      output = output;
      next = next;
      entries = parts.entries ++ ran_entry seat number n p ∷ [];
      tasks = set parts.tasks seat Task.Idle;
      turns = parts.turns + 1;
    })
    commit-paid pool output next =
        entry-paid parts s a seat attempt (Task.Running attempt) task refl (ran_entry seat number n p) released pool
        (λ k apart. row_set_else parts.memory.rows seat k no_log apart)
        (let u = ap (λ (notes : Log Val). length notes.undos) empty in omega arith) Task.Idle output next (parts.turns + 1) parts.stopped
        (let h = enough-used in omega arith) (λ x e. absurd (no-attempt x e)) (λ h. h) (λ h. tt)

    pub ended-paid : HasPaidTurns (has_ended seat number n p ls parts)
    ended-paid = let new = has_ended seat number n p ls parts in commit-paid new.pool new.output new.next

    pub left-paid : HasPaidTurns (has_left seat number n p ls parts)
    left-paid = let new = has_left seat number n p ls parts in commit-paid new.pool new.output new.next

  pub noted-paid : HasPaidTurns (has_noted seat attempt n p parts)
  noted-paid =
      let new = has_noted seat attempt n p parts in
      entry-paid parts s a seat attempt (Task.Running attempt) task refl (stuck_entry seat number n p) parts.memory new.pool (λ k apart. refl) (a.undos seat)
      (Task.Undoing (record attempt { logged = true }) UndoReason.Noted) parts.output parts.next (parts.turns + 1) parts.stopped
      (let h = its-used in let i = used-inputs (run_in parts seat number) n p used in let u = a.undos seat in omega arith)
      (λ x e. let same : record attempt { logged = true } ≡ x = cc in let steps = ap (λ (t : Attempt). t.tried.steps) same in
      let h = a.inputs seat attempt (ap attempt_of task) in omega arith)
      (λ h. h) (λ h. refl)

-- Unprotected code

visit-rows : (parts : Parts) (number n : ℕ) (p : LocalState) (inside : Bool) (memory : MemoryView Val) → IsVisit parts number n p inside memory
    → memory.rows ≡ parts.memory.rows
visit-rows parts i _ _ _ _ (IsVisit.stepped n p some steps) = refl
visit-rows parts i _ _ _ _ (IsVisit.acted n p act v made steps stands given fed) = by act
  where
    by : (act : Act) → (memory_after act parts.memory).rows ≡ parts.memory.rows
    by (Act.Writes l w) = refl
    by (Act.Allocates sort ty w) = refl
    by _ = refl
visit-rows parts i _ _ _ _ (IsVisit.closed n p v steps value) = refl

module _ (parts : Parts) (s : Simulates parts) (a : HasPaidTurns parts) (seat : ℕ) (attempt : Attempt) (task : task_at parts.tasks seat ≡ Task.Free attempt) where
  nothing-logged : row_at parts.memory.rows seat ≡ no_log
  nothing-logged =
      let visits : Visits parts s.types seat attempt = subst (MeetsTask parts s.types seat) task (s.seats seat) in visits.clear

  free-used : (n : ℕ) → attempt.tried.steps ≤ n
      → (if attempt.logged then 0 else used_at parts.limits.slice (row_at parts.memory.rows seat) attempt) ≤ 1 + n
  free-used n low =
      let none = ap (λ (notes : Log Val). length notes.inputs) nothing-logged in
      let h = used-less parts s a seat attempt (Task.Free attempt) task refl n (omega arith) low in omega arith

  pub visited-paid : (n : ℕ) (p : LocalState) (inside : Bool) (memory : MemoryView Val) → IsVisit parts attempt.tried.number n p inside memory
      → attempt.tried.steps ≤ n → HasPaidTurns (has_visited seat attempt.tried.number n p inside memory parts)
  visited-paid n p inside memory visit low =
      let new = has_visited seat attempt.tried.number n p inside memory parts in
      let rows = visit-rows parts attempt.tried.number n p inside memory visit in
      let same = (λ (k : ℕ). ap (λ (notes : List (Log Val)). row_at notes k) rows) in
      entry-paid parts s a seat attempt (Task.Free attempt) task refl (free_entry seat attempt.tried.number n p) memory new.pool (λ k apart. same k)
      (subst (λ (notes : Log Val). length notes.undos ≤ length notes.inputs) (sym (same seat)) (a.undos seat)) Task.Idle new.output new.next
      (parts.turns + 1) parts.stopped (let h = free-used n low in omega arith) (λ x e. absurd (no-attempt x e)) (λ h. h) (λ h. tt)

-- Notes once a stop is kept

module _ (parts : Parts) (s : Simulates parts) (a : HasPaidTurns parts) (seat : ℕ) where
  told-as : (entry : Entry) (was now : Task) (attempt : Attempt) → task_at parts.tasks seat ≡ was → attempt_of was ≡ Some attempt
      → 1 + allowance parts.limits.slice (row_at parts.memory.rows seat) was ≤ 3 * (entry.steps + 1)
      → undos_left (row_at parts.memory.rows seat) now ≡ 0 → ((x : Attempt) → attempt_of now ≡ Some x → x.tried.steps ≡ attempt.tried.steps)
      → (turns : ℕ) → turns ≤ parts.turns + 1
      → HasPaidTurns (record parts { entries = parts.entries ++ entry ∷ []; tasks = set parts.tasks seat now; turns = turns; stopped = true })
  told-as entry was now attempt had its enough none same turns few =
      entry-paid parts s a seat attempt was had its entry parts.memory parts.pool (λ k apart. refl) (a.undos seat) now parts.output parts.next turns true
      (omega arith) (λ x e. let steps = same x e in let h = a.inputs seat attempt (ap attempt_of had ∙ its) in omega arith)
      (λ h. absurd (let clash : true ≡ false = h in cc)) (λ h. absurd (let clash : true ≡ false = h in cc))

  told-steps : (attempt x : Attempt) → Some (told_attempt attempt) ≡ Some x → x.tried.steps ≡ attempt.tried.steps
  told-steps attempt x e = let same : told_attempt attempt ≡ x = cc in ap (λ (t : Attempt). t.tried.steps) (sym same)

  pub told-paid : (kind : EntryKind) (task : Task) (side : Side) (number n : ℕ) (p : LocalState) → task_at parts.tasks seat ≡ task
      → MayBeNoted parts seat task side number n p → ((attempt : Attempt) → attempt_of task ≡ Some attempt → attempt.tried.steps ≤ n)
      → (turns : ℕ) → turns ≤ parts.turns + 1
      → HasPaidTurns (record parts {
        entries = parts.entries ++ note_entry kind seat number n p ∷ [];
        tasks = set parts.tasks seat (told_task task);
        turns = turns;
        stopped = true;
      })
  told-paid kind _ _ _ _ _ had (MayBeNoted.running attempt n p used valid) low =
      told-as (note_entry kind seat attempt.tried.number n p) (Task.Running attempt) (Task.Running (told_attempt attempt)) attempt had refl
      (let h = enough-used parts s a seat attempt had n p used (low attempt refl) in omega arith) refl (λ x e. told-steps attempt x e)
  told-paid kind _ _ _ _ _ had (MayBeNoted.free attempt n p steps) low =
      told-as (note_entry kind seat attempt.tried.number n p) (Task.Free attempt) (Task.Free (told_attempt attempt)) attempt had refl
      (let h = free-used parts s a seat attempt had n (low attempt refl) in omega arith) refl (λ x e. told-steps attempt x e)

-- Consequences

pub turns-bounded : (parts : Parts) → HasPaidTurns parts → ((seat : ℕ) → task_at parts.tasks seat ≡ Task.Idle)
    → parts.turns ≤ paid parts.limits.slice parts.entries parts.tried
turns-bounded parts a idle =
    let none =
    over-none parts.limits.seats (λ k. allowance parts.limits.slice (row_at parts.memory.rows k) (task_at parts.tasks k))
    (λ k. ap (λ (task : Task). allowance parts.limits.slice (row_at parts.memory.rows k) task) (idle k)) in
    let h = a.turns in omega arith
