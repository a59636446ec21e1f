-- Members that wait: start, begin, reads, writes, allocations, checks, notes, and a stop.
use Rattle.std.proofs.Common.{◌≡◌, ℕ, ◌+◌, ◌<◌, ◌⊎◌, inl, inr, true, false, List, [], ◌∷◌, ◌++◌, set, length, Option, Some, None, append_assoc, refl, sym, ap, ◌∙◌, subst, arith}
use Rattle.std.specs.Prelude.{option_map}
use Rattle.std.proofs.lemmas.Bool.{eq-eqb, ne_eqb}
use Rattle.ame_term.specs.Tree.{Val, Tree}
use Rattle.ame_term.specs.Act.{Act}
use Rattle.ame_term.specs.Context.{focus}
use Rattle.ame_term.specs.declared.types.Loc.{Loc}
use Rattle.ame_term.specs.declared.types.Sort.{Sort}
use Rattle.ame_term.specs.declared.types.TyNo.{TyNo}
use Rattle.ame_journal.specs.Replayed.{is_false_condition}
use Rattle.ame_pool.specs.declared.member.Member.{Member}
use Rattle.ame_pool.specs.Members.{find}
use Rattle.ame_pool.specs.Found.{IsFoundAfter}
use Rattle.ame_pool.specs.Roster.{Roster}
use Rattle.ame_pool.specs.Calls.{IsAt, begun, held, noted_on, noted}
use Rattle.ame_pool.specs.Keeps.{is_inside_at}
use Rattle.ame_pool.proofs.MemberLemmas.{found_altered}
use Rattle.ame_store.specs.declared.cell.Cell.{Cell}
use Rattle.ame_store.specs.Cells.{IsFree, IsOwnedBy}
use Rattle.ame_store.specs.Changes.{made}
use Rattle.ame_machine.specs.Run.Local.{LocalState}
use Rattle.ame_rows.specs.MemoryView.{MemoryView, row_at}
use Rattle.ame_rows.specs.Access.{written_by, allocated_by}
use Rattle.ame_protocol.specs.Row.Heap.{Heap, cell_at, IsCell}
use Rattle.ame_protocol.specs.Row.SeatRun.{SeatRun, HasUsed, ComesTo, AreValid}
use Rattle.ame_protocol.specs.Row.Changed.{KeepsCommitted}
use Rattle.ame_protocol.specs.Row.Framed.{IsFramedAt, IsFramed}
use Rattle.ame_protocol.specs.Row.Waiting.{read_places, IsWaiting}
use Rattle.ame_protocol.proofs.Row.CellLemmas.{which}
use Rattle.ame_protocol.proofs.Row.EventLemmas.{taken-framed, again-framed, new-framed}
use Rattle.ame_protocol.proofs.Row.WaitingLemmas.{waits}
use Rattle.ame_protocol.specs.declared.types.Attempt.{Attempt}
use Rattle.ame_protocol.specs.declared.types.UndoReason.{UndoReason}
use Rattle.ame_protocol.specs.declared.types.Task.{Task}
use Rattle.ame_protocol.specs.Engine.Logged.{heap_of, read_by}
use Rattle.ame_protocol.specs.Engine.Parts.{Parts, whole_journal, heap_in, task_at, attempt_of, member_of, run_in}
use Rattle.ame_protocol.specs.Engine.Tasks.{is_busy_as, RunsProtected}
use Rattle.ame_protocol.specs.Engine.Simulates.{Simulates}
use Rattle.ame_protocol.specs.Engine.Events.{fresh_attempt, begun_task, has_begun, has_read, has_written, has_allocated, has_stopped}
use Rattle.ame_protocol.proofs.Engine.MemoryEvents.{read-heap, write-first, write-later, write-committed, allocation-becomes, allocation-committed}
use Rattle.ame_protocol.proofs.Engine.PoolLemmas.{found-machine, found-at, machines-stay}
use Rattle.ame_protocol.proofs.Engine.StepLemmas.{seat_within, task_here, task_else}
use Rattle.ame_protocol.proofs.Engine.AccessLemmas.{runs, within, write-there}
use Rattle.ame_protocol.specs.Waits.Noted.{stuck_entry, has_noted}
use Rattle.ame_protocol.specs.Waits.Left.{LeavesOthers}
use Rattle.ame_protocol.specs.Waits.Waiting.{watched_by, last_stuck, HasFailed, AreWaiting}
use Rattle.ame_protocol.proofs.Waits.WatchLemmas.{watched-of, unwatched, running-unwatched, last-same, last-here}
use Rattle.ame_protocol.proofs.Waits.NotedLemmas.{noted_attempt}
use Rattle.ame_protocol.proofs.Waits.KeepLemmas.{waited}

-- Start and stop

pub nobody-waiting : (parts : Parts) → ((i : ℕ) → watched_by i parts.pool ≡ None) → AreWaiting parts
nobody-waiting parts none = record {
  failed = λ i ws e. absurd (let clash : ◌≡◌ {A = Option (List ℕ)} None (Some ws) = sym (none i) ∙ e in cc);
}

pub stop-waiting : (parts : Parts) → AreWaiting parts → AreWaiting (has_stopped parts)
stop-waiting parts a = record {
  failed =
      λ i ws e.
      let h = a.failed i ws e in
      record { note = h.note; last = h.last; run = h.run; start = h.start; place = h.place; fresh = h.fresh; waits = h.waits };
}

-- A seat that has a member as one that runs

-- who runs waits for nothing
pub runs-unwatched : (pool : Roster Tree) (i : ℕ) (ws : List ℕ) → IsAt (is_busy_as false) i pool → watched_by i pool ≡ Some ws → ⊥
runs-unwatched pool i ws busy e =
    let m = found-at pool i (is_busy_as false) busy in
    let none : watched_by i pool ≡ None = ap watched-of m.1 ∙ running-unwatched m.0 m.2 in
    let clash : ◌≡◌ {A = Option (List ℕ)} None (Some ws) = sym none ∙ e in cc

module _ (parts : Parts) (seat number : ℕ) (has : member_of (task_at parts.tasks seat) ≡ Some number) (busy : IsAt (is_busy_as false) number parts.pool) where
  pub not-had : (i : ℕ) (ws : List ℕ) → watched_by i parts.pool ≡ Some ws → member_of (task_at parts.tasks seat) ≡ Some i → ⊥
  not-had i ws e its =
      let both : Some number ≡ Some i = sym has ∙ its in
      let same : number ≡ i = cc in runs-unwatched parts.pool number ws busy (ap (λ (k : ℕ). watched_by k parts.pool) same ∙ e)

  -- an event that leaves pool and journal as they are
  pub acted-waiting : (memory : MemoryView Val) (tasks : List Task) (turns : ℕ) → ((other : ℕ) → (other ≡ seat → ⊥) → IsFramed other (heap_in parts) (heap_of memory))
      → KeepsCommitted (heap_in parts) (heap_of memory) → ((other : ℕ) → (other ≡ seat → ⊥) → task_at tasks other ≡ task_at parts.tasks other)
      → AreWaiting parts → AreWaiting (record parts { memory = memory; tasks = tasks; turns = turns })
  acted-waiting memory tasks turns framed committed elsewhere a = record {
    failed =
        λ i ws e.
        let new : Parts = record parts { memory = memory; tasks = tasks; turns = turns } in
        let leaves : LeavesOthers parts new seat = record { framed = framed; tasks = elsewhere } in
        waited parts new seat leaves i ws (record {
          before = e;
          stays = record { machine = refl; last = refl; committed = λ l there. committed l };
          apart = not-had i ws e;
        }) a;
  }

pub same-framed : (heap : Heap) (seat : ℕ) → IsFramed seat heap heap
same-framed heap seat = record { places = λ m. IsFramedAt.stays refl refl; longer = omega arith }

module _ (parts : Parts) (s : Simulates parts) (seat : ℕ) (attempt : Attempt) (task : task_at parts.tasks seat ≡ Task.Running attempt) (a : AreWaiting parts) where
  abbrev number : ℕ
  number = attempt.tried.number

  abbrev heap : Heap
  heap = heap_in parts

  its-runs : RunsProtected parts s.types seat attempt
  its-runs = runs parts s seat attempt task

  in_rows : seat < length parts.memory.rows
  in_rows = within parts s seat attempt task

  on-acted : (memory : MemoryView Val) (tasks : List Task) (turns : ℕ) → ((other : ℕ) → (other ≡ seat → ⊥) → IsFramed other heap (heap_of memory))
      → KeepsCommitted heap (heap_of memory)
      → ((other : ℕ) → (other ≡ seat → ⊥) → task_at tasks other ≡ task_at parts.tasks other)
      → AreWaiting (record parts { memory = memory; tasks = tasks; turns = turns })
  on-acted memory tasks turns framed committed elsewhere =
      acted-waiting parts seat number (ap member_of task) its-runs.work.busy memory tasks turns framed committed elsewhere a

  -- another task
  pub retask-waiting : (next : Task) → AreWaiting (record parts { tasks = set parts.tasks seat next; turns = parts.turns + 1 })
  retask-waiting next =
      on-acted parts.memory (set parts.tasks seat next) (parts.turns + 1) (λ other apart. same-framed heap other) (λ l. refl) (task_else parts.tasks seat next)

  pub read-waiting : (l : Loc) → AreWaiting (has_read seat l parts)
  read-waiting l =
      let same = read-heap parts.memory seat in_rows l in
      on-acted (read_by seat l parts.memory) parts.tasks (parts.turns + 1) (λ other apart. subst (IsFramed other heap) (sym same) (same-framed heap other))
      (λ m. ap (λ (h : Heap). h.committed m) same) (λ other apart. refl)

  module _ (n : ℕ) (p : LocalState) where
    module _ (l : Loc) (v : Val) (comes : ComesTo (run_in parts seat number) (Act.Writes l.0 v) n p) where
      abbrev wrote : MemoryView Val
      wrote = written_by seat l v Val.Unit parts.memory

      is_there : IsCell heap l.0
      is_there = (write-there parts s seat attempt task n p l v comes).0

      kept : KeepsCommitted heap (heap_of wrote)
      kept = write-committed parts.memory seat l v in_rows is_there s.consistent

      pub first-waiting : IsFree (cell_at heap l.0) → AreWaiting (has_written seat l v parts)
      first-waiting free =
          on-acted wrote parts.tasks (parts.turns + 1)
          (λ other apart. taken-framed other seat (λ e. apart (sym e)) heap (heap_of wrote) l.0 kept v free (write-first parts.memory seat l v is_there free))
          kept (λ other apart. refl)

      pub later-waiting : IsOwnedBy seat (cell_at heap l.0) → AreWaiting (has_written seat l v parts)
      later-waiting own =
          on-acted wrote parts.tasks (parts.turns + 1)
          (λ other apart. again-framed other seat (λ e. apart (sym e)) heap (heap_of wrote) l.0 kept v own (write-later parts.memory seat l v is_there own))
          kept (λ other apart. refl)

  module _ (sort : Sort) (ty : TyNo) (v : Val) where
    abbrev cells : ℕ
    cells = length parts.memory.cells

    abbrev larger : MemoryView Val
    larger = allocated_by seat sort ty v (Val.Loc (length parts.memory.cells)) parts.memory

    abbrev new_cell : Cell Val
    new_cell = made sort ty v (Some seat)

    not_there : IsCell heap cells → ⊥
    not_there there = let h : length parts.memory.cells < length parts.memory.cells = there in omega arith

    not-others : (other : ℕ) → (other ≡ seat → ⊥) → IsOwnedBy other new_cell → ⊥
    not-others other apart own = apart (let both : ◌≡◌ {A = Option ℕ} (Some seat) (Some other) = own in let one : seat ≡ other = cc in sym one)

    kept-larger : KeepsCommitted heap (heap_of larger)
    kept-larger = allocation-committed parts.memory seat sort ty v in_rows

    pub allocation-waiting : AreWaiting (has_allocated seat sort ty v parts)
    allocation-waiting =
        on-acted larger parts.tasks (parts.turns + 1)
        (λ other apart. new-framed other heap (heap_of larger) cells new_cell not_there (not-others other apart) (allocation-becomes parts.memory seat sort ty v)
        (λ m _. kept-larger m))
        kept-larger (λ other apart. refl)

  -- A note
  module _ (n : ℕ) (p : LocalState) (place : HasUsed (run_in parts seat number) n p) (valid : AreValid heap seat (run_in parts seat number).reads)
      (fails : is_false_condition (focus p.term) ≡ true) where
    abbrev run : SeatRun
    run = run_in parts seat number

    abbrev locs : List ℕ
    locs = read_places (row_at parts.memory.rows seat).reads

    abbrev pool : Roster Tree
    pool = noted number locs parts.pool

    abbrev new : Parts
    new = has_noted seat attempt n p parts

    found : IsFoundAfter number (option_map (noted_on locs)) parts.pool.members pool.members
    found = found_altered number (noted_on locs) (λ _. refl) parts.pool.members

    journal : whole_journal new ≡ whole_journal parts ++ stuck_entry seat number n p ∷ []
    journal = sym (append_assoc parts.base parts.entries (stuck_entry seat number n p ∷ []))

    abbrev noted-task : Task
    noted-task = Task.Undoing (noted_attempt attempt) UndoReason.Noted

    next-task : task_at new.tasks seat ≡ noted-task
    next-task = task_here parts.tasks seat noted-task (seat_within parts.tasks seat attempt (ap attempt_of task))

    its-place : IsWaiting heap seat locs run n p
    its-place = waits parts.signature s.types heap seat run s.r.state n p its-runs.owes valid its-runs.scoped place fails

    now-watched : watched_by number pool ≡ Some locs
    now-watched =
        let m = found-at parts.pool number (is_busy_as false) its-runs.work.busy in
        ap watched-of (found.here ∙ ap (option_map (noted_on locs)) m.1)

    mine : (ws : List ℕ) → watched_by number pool ≡ Some ws → HasFailed new number ws
    mine ws e =
        let both : ◌≡◌ {A = Option (List ℕ)} (Some locs) (Some ws) = sym now-watched ∙ e in
        let same : locs ≡ ws = cc in
        subst (HasFailed new number) same (record {
          note = stuck_entry seat number n p;
          last = ap (last_stuck number) journal ∙ last-here number (stuck_entry seat number n p) (whole_journal parts) (eq-eqb number number refl);
          run = run;
          start =
              machines-stay number (noted_on locs) parts.pool.members pool.members found (λ _. refl)
              (λ _. refl) number ∙ found-machine parts.pool number false its-runs.work.busy;
          place = p;
          fresh = refl;
          waits =
              λ k may. let one : seat ≡ k = may seat (ap member_of next-task) in subst (λ (m : ℕ). IsWaiting heap m locs run n p) one its-place;
        })

    pub note-waiting : AreWaiting new
    note-waiting = record { failed = λ i ws e. by i ws e (which i number) }
      where
        by : (i : ℕ) (ws : List ℕ) → watched_by i pool ≡ Some ws → (i ≡ number) ⊎ ((i ≡ number) → ⊥) → HasFailed new i ws
        by i ws e (inl same) = subst (λ (k : ℕ). HasFailed new k ws) (sym same) (mine ws (ap (λ (k : ℕ). watched_by k pool) (sym same) ∙ e))
        by i ws e (inr apart) =
            let told = found.others i apart in
            let was : watched_by i parts.pool ≡ Some ws = sym (ap watched-of told) ∙ e in
            let leaves : LeavesOthers parts new seat = record { framed = λ other _. same-framed heap other; tasks = task_else parts.tasks seat noted-task } in
            waited parts new seat leaves i ws (record {
              before = was;
              stays = record {
                machine = ap (option_map (λ (m : Member Tree). m.machine)) told;
                last =
                    ap (last_stuck i) journal
                    ∙ last-same i (stuck_entry seat number n p) (whole_journal parts) (ne_eqb number i (λ same. apart (sym same)));
                committed = λ l there. refl;
              };
              apart = not-had parts seat number (ap member_of task) its-runs.work.busy i ws was;
            }) a

-- Begin

module _ (parts : Parts) (a : AreWaiting parts) (seat number : ℕ) (idle : task_at parts.tasks seat ≡ Task.Idle) where
  abbrev begun_pool : Roster Tree
  begun_pool = held number parts.pool

  abbrev begun_parts : Parts
  begun_parts = has_begun seat number parts

  abbrev first_task : Task
  first_task = begun_task (is_inside_at parts.pool.members number) (fresh_attempt number parts)

  found_begun : IsFoundAfter number (option_map begun) parts.pool.members begun_pool.members
  found_begun = found_altered number begun (λ _. refl) parts.pool.members

  leaves : LeavesOthers parts begun_parts seat
  leaves = record {
    framed = λ other _. same-framed (heap_in parts) other;
    tasks = task_else parts.tasks seat first_task;
  }

  pub begin-waiting : AreWaiting begun_parts
  begin-waiting = record { failed = λ i ws e. by i ws e (which i number) }
    where
      by : (i : ℕ) (ws : List ℕ) → watched_by i begun_pool ≡ Some ws → (i ≡ number) ⊎ ((i ≡ number) → ⊥) → HasFailed begun_parts i ws
      by i ws e (inl same) =
          let none : watched_by i begun_pool ≡ None =
          ap (λ (k : ℕ). watched_by k begun_pool) same ∙ ap watched-of found_begun.here ∙ unwatched begun (λ _. refl) (find number parts.pool.members) in
          absurd (let clash : ◌≡◌ {A = Option (List ℕ)} None (Some ws) = sym none ∙ e in cc)
      by i ws e (inr apart) =
          let told = found_begun.others i apart in
          waited parts begun_parts seat leaves i ws (record {
            before = sym (ap watched-of told) ∙ e;
            stays = record { machine = ap (option_map (λ (m : Member Tree). m.machine)) told; last = refl; committed = λ l there. refl };
            apart = λ its. let clash : ◌≡◌ {A = Option ℕ} None (Some i) = sym (ap member_of idle) ∙ its in cc;
          }) a
