-- A member that was rolled back as often as it may be runs alone.
use Rattle.std.proofs.Common.{◌≡◌, ℕ, ◌+◌, ◌%◌, ◌<◌, ◌⊎◌, inl, inr, true, false, map, length, Option, Some, MatchOption, Contains, refl, sym, ap, ◌∙◌, subst, arith}
use Rattle.ame_term.specs.Tree.{Val}
use Rattle.ame_term.specs.Act.{Act}
use Rattle.ame_term.specs.declared.types.Loc.{Loc}
use Rattle.ame_term.specs.declared.types.Sort.{Sort}
use Rattle.ame_term.specs.declared.types.TyNo.{TyNo}
use Rattle.ame_store.specs.declared.cell.Cell.{Cell}
use Rattle.ame_store.specs.Cells.{HasItsParity, IsFree, IsOwnedBy}
use Rattle.ame_store.specs.Changes.{made}
use Rattle.ame_machine.specs.Run.Local.{LocalState}
use Rattle.ame_rows.specs.MemoryView.{MemoryView, Log, no_log, row_at}
use Rattle.ame_protocol.specs.Row.Heap.{Heap, cell_at}
use Rattle.ame_protocol.specs.Row.SeatRun.{SeatRun, ComesTo, AreValid}
use Rattle.ame_protocol.specs.Row.UndoLog.{undo_place}
use Rattle.ame_protocol.proofs.Row.CellLemmas.{free_or_owned}
use Rattle.ame_protocol.proofs.Row.LoneLemmas.{read-valid, valid-taken, valid-again, valid-new}
use Rattle.ame_protocol.specs.declared.types.Attempt.{Attempt}
use Rattle.ame_protocol.specs.declared.types.Task.{Task}
use Rattle.ame_protocol.specs.Engine.Logged.{heap_of, logged_run, read_by}
use Rattle.ame_protocol.specs.Engine.Parts.{Parts, heap_in, task_at, attempt_of, term_at, run_in}
use Rattle.ame_protocol.specs.Engine.Tasks.{MeetsTask}
use Rattle.ame_protocol.specs.Engine.Simulates.{Simulates}
use Rattle.ame_protocol.specs.Engine.Alone.{is_of_protected, IsExhausted, RunsExclusively}
use Rattle.ame_protocol.specs.Engine.Events.{has_read, has_written, has_allocated}
use Rattle.ame_protocol.proofs.Engine.MemoryLemmas.{memory-undo_log}
use Rattle.ame_protocol.proofs.Engine.MemoryEvents.{read-heap, read-outside, read-own, write-first, write-later, first-run, later-run, allocation-becomes, allocation-run}
use Rattle.ame_protocol.proofs.Engine.StepLemmas.{owned_or_not}
use Rattle.ame_protocol.proofs.Engine.AccessLemmas.{runs, within, read-there, write-there}

module _ (parts : Parts) (s : Simulates parts) where
  -- who owns a cell is at work as protected code
  pub owner-protected : (l owner : ℕ) → IsOwnedBy owner (cell_at (heap_in parts) l) → is_of_protected (task_at parts.tasks owner) ≡ true
  owner-protected l owner own = by (task_at parts.tasks owner) (s.seats owner)
    where
      named : Contains (map undo_place (row_at parts.memory.rows owner).undos) l
      named = (memory-undo_log parts.memory s.consistent owner).named l own

      none : row_at parts.memory.rows owner ≡ no_log → ⊥
      none clear =
          let x = subst (λ (n : Log Val). Contains (map undo_place n.undos) l) clear named in
          let below : x.0 < 0 = x.1 in omega arith

      by : (task : Task) → MeetsTask parts s.types owner task → is_of_protected task ≡ true
      by Task.Idle h = absurd (none h)
      by (Task.Running attempt) h = refl
      by (Task.Free attempt) h = absurd (none h.clear)
      by (Task.Undoing attempt reason) h = refl

  module _ (a : RunsExclusively parts) (seat : ℕ) (attempt : Attempt) (exhausted : IsExhausted parts seat attempt) where
    -- so an exhausted member meets no other owner
    pub no-other-owner : (l owner : ℕ) → IsOwnedBy owner (cell_at (heap_in parts) l) → owner ≡ seat
    no-other-owner l owner own = a.alone seat owner attempt exhausted (owner-protected l owner own)

    pub free-there : (l : ℕ) → (IsOwnedBy seat (cell_at (heap_in parts) l) → ⊥) → IsFree (cell_at (heap_in parts) l)
    free-there l apart = by (free_or_owned (cell_at (heap_in parts) l))
      where
        by : IsFree (cell_at (heap_in parts) l) ⊎ ((owner : ℕ) × IsOwnedBy owner (cell_at (heap_in parts) l)) → IsFree (cell_at (heap_in parts) l)
        by (inl free) = free
        by (inr x) = absurd (apart (x.1 ∙ ap Some (no-other-owner l x.0 x.1)))

-- a free cell's number is even
even-there : (cell : Cell Val) → HasItsParity cell → IsFree cell → cell.number % 2 ≡ 0
even-there cell h free = subst (λ (o : Option ℕ). MatchOption o (cell.number % 2 ≡ 0) (λ _. cell.number % 2 ≡ 1)) free h

-- Reads, writes and allocations

module _ (parts : Parts) (s : Simulates parts) (a : RunsExclusively parts) (seat : ℕ) (attempt : Attempt) (task : task_at parts.tasks seat ≡ Task.Running attempt)
    (n : ℕ) (p : LocalState) where
  abbrev run : SeatRun
  run = run_in parts seat attempt.tried.number

  in_rows : seat < length parts.memory.rows
  in_rows = within parts s seat attempt task

  -- An event keeps the tasks, and the seat's own reads stay valid.
  kept : (memory : MemoryView Val) (turns : ℕ)
      → (IsExhausted parts seat attempt → parts.stopped ≡ false → AreValid (heap_in parts) seat run.reads
      → AreValid (heap_of memory) seat (logged_run (term_at parts.pool attempt.tried.number) (row_at memory.rows seat)).reads)
      → RunsExclusively (record parts { memory = memory; turns = turns })
  kept memory turns on = record {
    alone = λ k other t exhausted. a.alone k other t (record { task = exhausted.task; has = exhausted.has; exhausted = exhausted.exhausted });
    running = λ going k t exhausted. a.running going k t (record { task = exhausted.task; has = exhausted.has; exhausted = exhausted.exhausted });
    valid = λ going k t exhausted. by going k t (record { task = exhausted.task; has = exhausted.has; exhausted = exhausted.exhausted });
  }
    where
      by : parts.stopped ≡ false → (k : ℕ) (t : Attempt) → IsExhausted parts k t → AreValid (heap_of memory) k (logged_run (term_at parts.pool t.tried.number) (row_at memory.rows k)).reads
      by going k t exhausted =
          let same : seat ≡ k = a.alone k seat t exhausted (ap is_of_protected task) in
          let its : IsExhausted parts seat t = subst (λ (m : ℕ). IsExhausted parts m t) (sym same) exhausted in
          let both : Some attempt ≡ Some t = sym (ap attempt_of task) ∙ its.has in
          let one : attempt ≡ t = cc in
          subst (λ (m : ℕ). AreValid (heap_of memory) m (logged_run (term_at parts.pool t.tried.number) (row_at memory.rows m)).reads) same
          (subst (λ (x : Attempt). AreValid (heap_of memory) seat (logged_run (term_at parts.pool x.tried.number) (row_at memory.rows seat)).reads) one
          (let mine : IsExhausted parts seat attempt = subst (IsExhausted parts seat) (sym one) its in on mine going (a.valid going seat attempt mine)))

  pub read-alone : (l : Loc) → ComesTo run (Act.Reads l.0) n p → HasItsParity (cell_at (heap_in parts) l.0) → RunsExclusively (has_read seat l parts)
  read-alone l comes parity = kept (read_by seat l parts.memory) (parts.turns + 1) (λ exhausted going valid. by exhausted valid (owned_or_not seat (cell_at (heap_in parts) l.0)))
    where
      same : heap_of (read_by seat l parts.memory) ≡ heap_in parts
      same = read-heap parts.memory seat in_rows l

      by : IsExhausted parts seat attempt → AreValid (heap_in parts) seat run.reads → IsOwnedBy seat (cell_at (heap_in parts) l.0) ⊎ (IsOwnedBy seat (cell_at (heap_in parts) l.0) → ⊥)
          → AreValid (heap_of (read_by seat l parts.memory)) seat (logged_run (term_at parts.pool attempt.tried.number) (row_at (read_by seat l parts.memory).rows seat)).reads
      by exhausted valid (inl own) =
          let is = read-own parts.memory seat in_rows l (read-there parts s seat attempt task n p l comes).0 own (term_at parts.pool attempt.tried.number) in
          subst (λ (h : Heap). AreValid h seat (logged_run (term_at parts.pool attempt.tried.number) (row_at (read_by seat l parts.memory).rows seat)).reads) (sym same)
          (subst (λ (r : SeatRun). AreValid (heap_in parts) seat r.reads) (sym is) valid)
      by exhausted valid (inr apart) =
          let is = read-outside parts.memory seat in_rows l (read-there parts s seat attempt task n p l comes).0 apart (term_at parts.pool attempt.tried.number) in
          let free = free-there parts s a seat attempt exhausted l.0 apart in
          subst (λ (h : Heap). AreValid h seat (logged_run (term_at parts.pool attempt.tried.number) (row_at (read_by seat l parts.memory).rows seat)).reads) (sym same)
          (subst (λ (r : SeatRun). AreValid (heap_in parts) seat r.reads) (sym is)
          (read-valid parts.signature s.types (heap_in parts) seat run l n p valid (runs parts s seat attempt task).scoped comes free
          (even-there (cell_at (heap_in parts) l.0) parity free)))

  pub write-first_alone : (l : Loc) (v : Val) → ComesTo run (Act.Writes l.0 v) n p → IsFree (cell_at (heap_in parts) l.0) → RunsExclusively (has_written seat l v parts)
  write-first_alone l v comes free =
      let there = (write-there parts s seat attempt task n p l v comes).0 in
      let memory = (has_written seat l v parts).memory in
      kept memory (parts.turns + 1) (λ exhausted going valid.
      subst (λ (r : SeatRun). AreValid (heap_of memory) seat r.reads) (sym (first-run parts.memory seat l v in_rows there free (term_at parts.pool attempt.tried.number)))
      (valid-taken (heap_in parts) (heap_of memory) seat l.0 run.reads (runs parts s seat attempt task).owes.notes valid v free (write-first parts.memory seat l v there free)))

  pub write-later_alone : (l : Loc) (v : Val) → ComesTo run (Act.Writes l.0 v) n p → IsOwnedBy seat (cell_at (heap_in parts) l.0) → RunsExclusively (has_written seat l v parts)
  write-later_alone l v comes own =
      let there = (write-there parts s seat attempt task n p l v comes).0 in
      let memory = (has_written seat l v parts).memory in
      kept memory (parts.turns + 1) (λ exhausted going valid.
      subst (λ (r : SeatRun). AreValid (heap_of memory) seat r.reads) (sym (later-run parts.memory seat l v in_rows there own (term_at parts.pool attempt.tried.number)))
      (valid-again (heap_in parts) (heap_of memory) seat l.0 run.reads (runs parts s seat attempt task).owes.notes valid v (write-later parts.memory seat l v there own)))

  pub allocation-alone : (sort : Sort) (ty : TyNo) (v : Val) → ComesTo run (Act.Allocates sort ty v) n p → RunsExclusively (has_allocated seat sort ty v parts)
  allocation-alone sort ty v comes =
      let place = length parts.memory.cells in
      let memory = (has_allocated seat sort ty v parts).memory in
      kept memory (parts.turns + 1) (λ exhausted going valid.
      subst (λ (r : SeatRun). AreValid (heap_of memory) seat r.reads) (sym (allocation-run parts.memory seat sort ty v in_rows (term_at parts.pool attempt.tried.number)))
      (valid-new (heap_in parts) (heap_of memory) seat place run.reads (runs parts s seat attempt task).owes.notes valid (made sort ty v (Some seat))
      (λ there. let h : place < length parts.memory.cells = there in omega arith) (allocation-becomes parts.memory seat sort ty v)))
