-- With one seat nothing is met that another seat did, and this stays so after each event.
use Rattle.std.proofs.Common.{◌≡◌, ℕ, ◌+◌, ◌%◌, ◌<◌, ◌⊎◌, inl, inr, Bool, true, false, List, [], set, length, length-set, Option, Some, MatchOption, refl, sym, ap, ◌∙◌, subst, arith}
use Rattle.std.proofs.lemmas.List.Elements.{All-nil}
use Rattle.ame_term.specs.Tree.{Val}
use Rattle.ame_term.specs.Act.{Act}
use Rattle.ame_term.specs.declared.types.Loc.{Loc}
use Rattle.ame_term.specs.declared.types.Sort.{Sort}
use Rattle.ame_term.specs.declared.types.TyNo.{TyNo}
use Rattle.ame_store.specs.declared.cell.Cell.{Cell}
use Rattle.ame_store.specs.Cells.{HasItsParity, IsFree, IsOwnedBy}
use Rattle.ame_store.specs.Changes.{made}
use Rattle.ame_machine.specs.Run.Local.{LocalState}
use Rattle.ame_rows.specs.MemoryView.{MemoryView, Log, no_log, row_at}
use Rattle.ame_protocol.specs.Row.Heap.{Heap, cell_at}
use Rattle.ame_protocol.specs.Row.SeatRun.{SeatRun, ComesTo, IsValidNote, AreValid}
use Rattle.ame_protocol.proofs.Row.CellLemmas.{free_or_owned}
use Rattle.ame_protocol.proofs.Row.LoneLemmas.{read-valid, valid-taken, valid-again, valid-new}
use Rattle.ame_protocol.specs.declared.types.Limits.{Limits}
use Rattle.ame_protocol.specs.declared.types.Attempt.{Attempt}
use Rattle.ame_protocol.specs.declared.types.Task.{Task}
use Rattle.ame_protocol.specs.Engine.Logged.{heap_of, logged_run, read_by}
use Rattle.ame_protocol.specs.Engine.Parts.{Parts, heap_in, task_at, attempt_of, term_at, run_in}
use Rattle.ame_protocol.specs.Engine.Tasks.{MeetsTask}
use Rattle.ame_protocol.specs.Engine.Simulates.{Simulates}
use Rattle.ame_protocol.specs.Engine.Alone.{is_of_protected}
use Rattle.ame_protocol.specs.Engine.Events.{begun_task, has_read, has_written, has_allocated}
use Rattle.ame_protocol.proofs.Engine.MemoryEvents.{read-heap, read-outside, read-own, write-first, write-later, first-run, later-run, allocation-becomes, allocation-run}
use Rattle.ame_protocol.proofs.Engine.StepLemmas.{seat_within, task_here, owned_or_not}
use Rattle.ame_protocol.proofs.Engine.AccessLemmas.{runs, within, read-there, write-there}
use Rattle.ame_protocol.proofs.Engine.AloneLemmas.{owner-protected}
use Rattle.ame_protocol.specs.Visits.Stops.{told_task}
use Rattle.ame_protocol.specs.declared.counters.Counters.{Counters}
use Rattle.ame_protocol.specs.Event.Counting.{one_undone}
use Rattle.ame_protocol.specs.Event.Lone.{IsUndisturbed, IsLone}

-- The one seat

module _ (parts : Parts) (s : Simulates parts) (one : parts.limits.seats ≡ 1) where
  pub only-seat : (k : ℕ) (t : Attempt) → attempt_of (task_at parts.tasks k) ≡ Some t → k ≡ 0
  only-seat k t has =
      let below : k < length parts.tasks = seat_within parts.tasks k t has in
      let count : length parts.tasks ≡ parts.limits.seats = s.bounded.tasks in omega (arith, below, count, one)

  -- owns all cells that have an owner
  pub only-owner : (l owner : ℕ) → IsOwnedBy owner (cell_at (heap_in parts) l) → owner ≡ 0
  only-owner l owner own = by (task_at parts.tasks owner) refl (owner-protected parts s l owner own)
    where
      by : (t : Task) → task_at parts.tasks owner ≡ t → is_of_protected (task_at parts.tasks owner) ≡ true → owner ≡ 0
      by Task.Idle e h = absurd (let clash : false ≡ true = sym (ap is_of_protected e) ∙ h in cc)
      by (Task.Running t) e h = only-seat owner t (ap attempt_of e)
      by (Task.Free t) e h = only-seat owner t (ap attempt_of e)
      by (Task.Undoing t reason) e h = only-seat owner t (ap attempt_of e)

  module _ (seat : ℕ) (attempt : Attempt) (has : attempt_of (task_at parts.tasks seat) ≡ Some attempt) where
    pub no-other : (l owner : ℕ) → IsOwnedBy owner (cell_at (heap_in parts) l) → owner ≡ seat
    no-other l owner own = only-owner l owner own ∙ sym (only-seat seat attempt has)

    pub free-else : (l : ℕ) → (IsOwnedBy seat (cell_at (heap_in parts) l) → ⊥) → IsFree (cell_at (heap_in parts) l)
    free-else l apart = by (free_or_owned (cell_at (heap_in parts) l))
      where
        by : IsFree (cell_at (heap_in parts) l) ⊎ ((owner : ℕ) × IsOwnedBy owner (cell_at (heap_in parts) l)) → IsFree (cell_at (heap_in parts) l)
        by (inl free) = free
        by (inr x) = absurd (apart (x.1 ∙ ap Some (no-other l x.0 x.1)))

-- Events

-- All seats are idle and nothing was met.
pub lone-idle : (parts : Parts) (counters : Counters) → ((seat : ℕ) → task_at parts.tasks seat ≡ Task.Idle) → IsUndisturbed counters → IsLone parts counters
lone-idle parts counters idle calm = record {
  counts = λ one. calm;
  valid = λ one k t run. absurd (let clash : Task.Idle ≡ Task.Running t = sym (idle k) ∙ run in cc);
}

-- after what isn't met with one seat
pub lone-never : (parts : Parts) (counters : Counters) → (parts.limits.seats ≡ 1 → ⊥) → IsLone parts counters
lone-never parts counters apart = record { counts = λ one. absurd (apart one); valid = λ one k t run. absurd (apart one) }

-- an event of a seat that is neither a conflict nor finds that a read isn't valid
module _ (parts new : Parts) (s : Simulates parts) (counters later : Counters) (lone : IsLone parts counters) (seat : ℕ) (there : seat < length parts.tasks)
    (limits : new.limits ≡ parts.limits) (conflicts : later.conflicts ≡ counters.conflicts) (invalids : later.invalids ≡ counters.invalids) where
  lone-as : length new.tasks ≡ length parts.tasks
      → (parts.limits.seats ≡ 1 → (t : Attempt) → task_at new.tasks seat ≡ Task.Running t → AreValid (heap_in new) seat (row_at new.memory.rows seat).reads)
      → IsLone new later
  lone-as same valid = record {
    counts = λ one. let c = lone.counts (was one) in record { conflicts = conflicts ∙ c.conflicts; invalids = invalids ∙ c.invalids };
    valid = λ one k t run. by (was one) k t run;
  }
    where
      was : new.limits.seats ≡ 1 → parts.limits.seats ≡ 1
      was one = sym (ap (λ (l : Limits). l.seats) limits) ∙ one

      by : parts.limits.seats ≡ 1 → (k : ℕ) (t : Attempt) → task_at new.tasks k ≡ Task.Running t → AreValid (heap_in new) k (row_at new.memory.rows k).reads
      by one k t run =
          let below : k < length new.tasks = seat_within new.tasks k t (ap attempt_of run) in
          let count : length parts.tasks ≡ parts.limits.seats = s.bounded.tasks in
          let is : seat ≡ k = omega (arith, below, same, count, one, there) in
          subst (λ (m : ℕ). AreValid (heap_in new) m (row_at new.memory.rows m).reads) is (valid one t (ap (task_at new.tasks) is ∙ run))

  -- the seat's next task
  pub lone-next : (next : Task) → new.tasks ≡ set parts.tasks seat next
      → (parts.limits.seats ≡ 1 → (t : Attempt) → next ≡ Task.Running t → AreValid (heap_in new) seat (row_at new.memory.rows seat).reads)
      → IsLone new later
  lone-next next tasks valid =
      lone-as (ap length tasks ∙ length-set parts.tasks seat next)
      (λ one t run. valid one t (sym (ap (λ (ts : List Task). task_at ts seat) tasks ∙ task_here parts.tasks seat next there) ∙ run))

  -- it doesn't run then
  pub lone-left : (next : Task) → new.tasks ≡ set parts.tasks seat next → ((t : Attempt) → next ≡ Task.Running t → ⊥) → IsLone new later
  lone-left next tasks apart = lone-next next tasks (λ one t run. absurd (apart t run))

  -- it begins
  pub lone-begun : (inside : Bool) (attempt : Attempt) → new.tasks ≡ set parts.tasks seat (begun_task inside attempt) → task_at parts.tasks seat ≡ Task.Idle
      → new.memory ≡ parts.memory → IsLone new later
  lone-begun inside attempt tasks idle memory =
      lone-next (begun_task inside attempt) tasks
      (λ one t run. subst (AreValid (heap_in new) seat) (sym none) (All-nil (IsValidNote (heap_in new) seat)))
    where
      clear : row_at parts.memory.rows seat ≡ no_log
      clear = subst (MeetsTask parts s.types seat) idle (s.seats seat)

      none : (row_at new.memory.rows seat).reads ≡ []
      none = ap (λ (d : MemoryView Val). (row_at d.rows seat).reads) memory ∙ ap (λ (n : Log Val). n.reads) clear

  -- The seat runs on, or an entry was added for its work.
  pub lone-on : (next : Task) → new.tasks ≡ set parts.tasks seat next → new.memory ≡ parts.memory
      → ((t : Attempt) → next ≡ Task.Running t → (a : Attempt) × (task_at parts.tasks seat ≡ Task.Running a)) → IsLone new later
  lone-on next tasks memory ran =
      lone-next next tasks
      (λ one t run. let before = ran t run in
      subst (λ (d : MemoryView Val). AreValid (heap_of d) seat (row_at d.rows seat).reads) (sym memory) (lone.valid one seat before.0 before.1))

  -- it reads, writes or makes a cell
  pub lone-access : (attempt : Attempt) → task_at parts.tasks seat ≡ Task.Running attempt → new.tasks ≡ parts.tasks
      → (parts.limits.seats ≡ 1 → AreValid (heap_in parts) seat (row_at parts.memory.rows seat).reads → AreValid (heap_in new) seat (row_at new.memory.rows seat).reads)
      → IsLone new later
  lone-access attempt task tasks on = lone-as (ap length tasks) (λ one t run. on one (lone.valid one seat attempt task))

-- A running task that has an entry ran before.
pub told-ran : (task : Task) (t : Attempt) → told_task task ≡ Task.Running t → (a : Attempt) × (task ≡ Task.Running a)
told-ran Task.Idle t e = absurd (let clash : Task.Idle ≡ Task.Running t = e in cc)
told-ran (Task.Running a) t e = (a, refl)
told-ran (Task.Free a) t e = absurd (cc)
told-ran (Task.Undoing a reason) t e = absurd (cc)

-- an undo is neither
pub undone-conflicts : (stopped : Bool) (c : Counters) → (one_undone stopped c).conflicts ≡ c.conflicts
undone-conflicts true c = refl
undone-conflicts false c = refl

pub undone-invalids : (stopped : Bool) (c : Counters) → (one_undone stopped c).invalids ≡ c.invalids
undone-invalids true c = refl
undone-invalids false c = refl

-- Reads, writes and allocations

-- a free cell's number is even
even-there : (cell : Cell Val) → HasItsParity cell → IsFree cell → cell.number % 2 ≡ 0
even-there cell h free = subst (λ (o : Option ℕ). MatchOption o (cell.number % 2 ≡ 0) (λ _. cell.number % 2 ≡ 1)) free h

module _ (parts : Parts) (s : Simulates parts) (counters later : Counters) (lone : IsLone parts counters) (conflicts : later.conflicts ≡ counters.conflicts)
    (invalids : later.invalids ≡ counters.invalids) (seat : ℕ) (attempt : Attempt) (task : task_at parts.tasks seat ≡ Task.Running attempt)
    (n : ℕ) (p : LocalState) where
  abbrev run : SeatRun
  run = run_in parts seat attempt.tried.number

  in_rows : seat < length parts.memory.rows
  in_rows = within parts s seat attempt task

  kept : (memory : MemoryView Val) (turns : ℕ)
      → (parts.limits.seats ≡ 1 → AreValid (heap_in parts) seat run.reads
      → AreValid (heap_of memory) seat (logged_run (term_at parts.pool attempt.tried.number) (row_at memory.rows seat)).reads)
      → IsLone (record parts { memory = memory; turns = turns }) later
  kept memory turns on =
      lone-access parts (record parts { memory = memory; turns = turns }) s counters later lone seat (seat_within parts.tasks seat attempt (ap attempt_of task))
      refl conflicts invalids attempt task refl on

  pub read-lone : (l : Loc) → ComesTo run (Act.Reads l.0) n p → HasItsParity (cell_at (heap_in parts) l.0) → IsLone (has_read seat l parts) later
  read-lone l comes parity = kept (read_by seat l parts.memory) (parts.turns + 1) (λ one valid. by one valid (owned_or_not seat (cell_at (heap_in parts) l.0)))
    where
      same : heap_of (read_by seat l parts.memory) ≡ heap_in parts
      same = read-heap parts.memory seat in_rows l

      by : parts.limits.seats ≡ 1 → AreValid (heap_in parts) seat run.reads → IsOwnedBy seat (cell_at (heap_in parts) l.0) ⊎ (IsOwnedBy seat (cell_at (heap_in parts) l.0) → ⊥)
          → AreValid (heap_of (read_by seat l parts.memory)) seat (logged_run (term_at parts.pool attempt.tried.number) (row_at (read_by seat l parts.memory).rows seat)).reads
      by one valid (inl own) =
          let is = read-own parts.memory seat in_rows l (read-there parts s seat attempt task n p l comes).0 own (term_at parts.pool attempt.tried.number) in
          subst (λ (h : Heap). AreValid h seat (logged_run (term_at parts.pool attempt.tried.number) (row_at (read_by seat l parts.memory).rows seat)).reads) (sym same)
          (subst (λ (r : SeatRun). AreValid (heap_in parts) seat r.reads) (sym is) valid)
      by one valid (inr apart) =
          let is = read-outside parts.memory seat in_rows l (read-there parts s seat attempt task n p l comes).0 apart (term_at parts.pool attempt.tried.number) in
          let free = free-else parts s one seat attempt (ap attempt_of task) l.0 apart in
          subst (λ (h : Heap). AreValid h seat (logged_run (term_at parts.pool attempt.tried.number) (row_at (read_by seat l parts.memory).rows seat)).reads) (sym same)
          (subst (λ (r : SeatRun). AreValid (heap_in parts) seat r.reads) (sym is)
          (read-valid parts.signature s.types (heap_in parts) seat run l n p valid (runs parts s seat attempt task).scoped comes free
          (even-there (cell_at (heap_in parts) l.0) parity free)))

  pub write-first_lone : (l : Loc) (v : Val) → ComesTo run (Act.Writes l.0 v) n p → IsFree (cell_at (heap_in parts) l.0) → IsLone (has_written seat l v parts) later
  write-first_lone l v comes free =
      let there = (write-there parts s seat attempt task n p l v comes).0 in
      let memory = (has_written seat l v parts).memory in
      kept memory (parts.turns + 1) (λ one valid.
      subst (λ (r : SeatRun). AreValid (heap_of memory) seat r.reads) (sym (first-run parts.memory seat l v in_rows there free (term_at parts.pool attempt.tried.number)))
      (valid-taken (heap_in parts) (heap_of memory) seat l.0 run.reads (runs parts s seat attempt task).owes.notes valid v free (write-first parts.memory seat l v there free)))

  pub write-later_lone : (l : Loc) (v : Val) → ComesTo run (Act.Writes l.0 v) n p → IsOwnedBy seat (cell_at (heap_in parts) l.0) → IsLone (has_written seat l v parts) later
  write-later_lone l v comes own =
      let there = (write-there parts s seat attempt task n p l v comes).0 in
      let memory = (has_written seat l v parts).memory in
      kept memory (parts.turns + 1) (λ one valid.
      subst (λ (r : SeatRun). AreValid (heap_of memory) seat r.reads) (sym (later-run parts.memory seat l v in_rows there own (term_at parts.pool attempt.tried.number)))
      (valid-again (heap_in parts) (heap_of memory) seat l.0 run.reads (runs parts s seat attempt task).owes.notes valid v (write-later parts.memory seat l v there own)))

  pub allocation-lone : (sort : Sort) (ty : TyNo) (v : Val) → ComesTo run (Act.Allocates sort ty v) n p → IsLone (has_allocated seat sort ty v parts) later
  allocation-lone sort ty v comes =
      let place = length parts.memory.cells in
      let memory = (has_allocated seat sort ty v parts).memory in
      kept memory (parts.turns + 1) (λ one valid.
      subst (λ (r : SeatRun). AreValid (heap_of memory) seat r.reads) (sym (allocation-run parts.memory seat sort ty v in_rows (term_at parts.pool attempt.tried.number)))
      (valid-new (heap_in parts) (heap_of memory) seat place run.reads (runs parts s seat attempt task).owes.notes valid (made sort ty v (Some seat))
      (λ there. let h : place < length parts.memory.cells = there in omega arith) (allocation-becomes parts.memory seat sort ty v)))
