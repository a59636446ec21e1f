-- Rollbacks and tries stay few, and the turns paid, after each kind of event.
use Rattle.std.proofs.Common.{◌≡◌, ℕ, ◌+◌, ◌<◌, ◌≤◌, Bool, true, false, List, [], length, Option, Some, None, refl, sym, ap, ◌∙◌, subst, arith}
use Rattle.std.specs.Prelude.{if◌then◌else◌}
use Rattle.ame_term.specs.Tree.{Val}
use Rattle.ame_term.specs.Act.{Act}
use Rattle.ame_term.specs.Frame.{Side}
use Rattle.ame_term.specs.declared.types.Loc.{Loc}
use Rattle.ame_term.specs.declared.types.Sort.{Sort}
use Rattle.ame_term.specs.declared.types.TyNo.{TyNo}
use Rattle.ame_journal.specs.declared.entry.EntryKind.{EntryKind}
use Rattle.ame_store.specs.Cells.{IsFree, IsOwnedBy}
use Rattle.ame_pool.specs.Members.{IsRising}
use Rattle.ame_machine.specs.Run.Local.{LocalState}
use Rattle.ame_rows.specs.MemoryView.{Log, MemoryView, row_at, no_log}
use Rattle.ame_protocol.specs.Row.Heap.{cell_at}
use Rattle.ame_protocol.specs.Row.SeatRun.{ComesTo, HasUsed, IsValidNote, AreValid}
use Rattle.ame_protocol.specs.declared.types.Attempt.{Attempt}
use Rattle.ame_protocol.specs.declared.types.Limits.{Limits}
use Rattle.ame_protocol.specs.declared.types.UndoReason.{UndoReason}
use Rattle.ame_protocol.specs.declared.types.Task.{Task}
use Rattle.ame_protocol.specs.Engine.Parts.{Parts, heap_in, task_at, run_in, attempt_of, working}
use Rattle.ame_protocol.specs.Engine.Tasks.{Visits, MeetsTask}
use Rattle.ame_protocol.specs.Engine.Simulates.{Simulates}
use Rattle.ame_protocol.specs.Engine.Events.{one_turn, has_begun, has_read, has_written, has_allocated, checked_attempt, has_checked, has_turned_back, has_undone, has_gone_home, has_stopped, has_ended, has_left}
use Rattle.ame_protocol.specs.Waits.Noted.{has_noted}
use Rattle.ame_protocol.specs.Visits.Visit.{IsVisit, has_visited, has_been_refused}
use Rattle.ame_protocol.specs.Visits.Stops.{MayBeNoted, note_entry, has_been_cut, has_grown_tall}
use Rattle.ame_protocol.specs.Bounds.Rollbacks.{HasReason, MayTurnBack, IsWithinRollbacks}
use Rattle.ame_protocol.specs.Bounds.FewRollbacks.{HasFewRollbacks}
use Rattle.ame_protocol.specs.Bounds.Spent.{HasPaidTurns}
use Rattle.ame_protocol.specs.Bounds.Untried.{IsUntried, IsToldOf}
use Rattle.ame_protocol.proofs.Bounds.FewLemmas.{acted-few}
use Rattle.ame_protocol.proofs.Bounds.FewEvents.{idle-few, begin-few, undone-few, undoing-home, running-home, free-home}
use Rattle.ame_protocol.proofs.Bounds.FewEntries.{ended-few, left-few, visited-few, noted-few, told-task-few, refused-few}
use Rattle.ame_protocol.proofs.Bounds.PaidEvents.{idle-paid, begin-paid, read-paid, first-paid, later-paid, allocation-paid, check-paid, back-paid}
use Rattle.ame_protocol.proofs.Bounds.PaidEntries.{ended-paid, left-paid, noted-paid, visited-paid, told-paid}
use Rattle.ame_protocol.proofs.Bounds.PaidHome.{undoing-more as undoing-more_paid, running-more as running-more_paid, undoing-home as undoing-home_paid, running-home as running-home_paid, free-home as free-home_paid}
use Rattle.ame_protocol.proofs.Bounds.UntriedLemmas.{idle-untried, begin-untried, stop-untried, next-untried, undone-untried, home-untried, cut-untried}
use Rattle.ame_protocol.specs.declared.counters.Counters.{Counters}
use Rattle.ame_protocol.specs.declared.stop.Stop.{Stop}
use Rattle.ame_protocol.specs.Event.Undoing.{is_undoing, reason_to_undo}
use Rattle.ame_protocol.specs.Event.Bounds.{refusals, ArePaid, IsUntriedUntil, KeepsBounds, LeavesNoTry}
use Rattle.std.proofs.lemmas.List.Elements.{All-nil}
use Rattle.ame_protocol.specs.Event.Lone.{IsLone}
use Rattle.ame_protocol.specs.Event.Causes.{is_from_outside}
use Rattle.ame_protocol.proofs.Event.LoneLemmas.{only-seat}

-- A stop

reason-same : (old : Parts) (memory : MemoryView Val) (turns : ℕ) (stopped : Bool) → (old.stopped ≡ true → stopped ≡ true) → (t : Task) → HasReason old t
    → HasReason (record old { memory = memory; turns = turns; stopped = stopped }) t
reason-same old memory turns stopped stays Task.Idle h = h
reason-same old memory turns stopped stays (Task.Running attempt) h = h
reason-same old memory turns stopped stays (Task.Free attempt) h = h
reason-same old memory turns stopped stays (Task.Undoing attempt UndoReason.RolledBack) h = h
reason-same old memory turns stopped stays (Task.Undoing attempt UndoReason.Noted) h = h
reason-same old memory turns stopped stays (Task.Undoing attempt UndoReason.Stopped) h = stays h

-- where cells, turns and a stop are all that changes
few-same : (refused : ℕ) (old : Parts) (memory : MemoryView Val) (turns : ℕ) (stopped : Bool) → (old.stopped ≡ true → stopped ≡ true)
    → (stopped ≡ false → old.stopped ≡ false) → HasFewRollbacks refused old → HasFewRollbacks refused (record old { memory = memory; turns = turns; stopped = stopped })
few-same refused old memory turns stopped stays goes a = record {
  reasons = λ k. reason-same old memory turns stopped stays (task_at old.tasks k) (a.reasons k);
  rare = a.rare;
  late = a.late;
  tries = record { few = a.tries.few; calm = λ h. a.tries.calm (goes h); once = a.tries.once; away = a.tries.away; room = a.tries.room };
}

stop-paid : (parts : Parts) → HasPaidTurns parts → HasPaidTurns (has_stopped parts)
stop-paid parts a = record {
  some_slice = a.some_slice;
  turns = a.turns;
  inputs = a.inputs;
  undos = a.undos;
  told = λ going. absurd (let clash : true ≡ false = going in cc);
}

paid-any : (why : Stop) (parts : Parts) → HasPaidTurns parts → ArePaid (Some why) parts
paid-any Stop.Finished parts h = h
paid-any Stop.Blocked parts h = h
paid-any Stop.Spent parts h = h
paid-any (Stop.Tall number) parts h = h
paid-any Stop.NoMemory parts h = h
paid-any Stop.WriteFault parts h = h
paid-any (Stop.DeviceFault device) parts h = tt

untried-any : (why : Stop) (parts : Parts) → parts.limits.seats ≡ 1 → IsUntried parts → LeavesNoTry why parts → IsUntriedUntil (Some why) (has_stopped parts)
untried-any Stop.Finished parts one u leaves = tt
untried-any Stop.Blocked parts one u leaves = tt
untried-any Stop.Spent parts one u leaves = stop-untried parts u (leaves one)
untried-any (Stop.Tall number) parts one u leaves = tt
untried-any Stop.NoMemory parts one u leaves = tt
untried-any Stop.WriteFault parts one u leaves = tt
untried-any (Stop.DeviceFault device) parts one u leaves = tt

-- No member is at work

pub idle-bounded : (parts : Parts) (counters : Counters) → refusals counters ≡ 0 → parts.tried ≡ [] → 1 ≤ parts.limits.slice → parts.turns ≡ 0
    → ((seat : ℕ) → task_at parts.tasks seat ≡ Task.Idle) → ((seat : ℕ) → row_at parts.memory.rows seat ≡ no_log) → KeepsBounds None counters parts
idle-bounded parts counters none untried slice turns idle clear = record {
  few = subst (λ (n : ℕ). HasFewRollbacks n parts) (sym none) (idle-few parts untried idle);
  paid = idle-paid parts slice turns idle clear;
  untried = λ one. idle-untried parts untried idle;
}

-- The events of a seat while no stop is kept

module _ (parts : Parts) (s : Simulates parts) (stop : Option Stop) (none : stop ≡ None) (going : parts.stopped ≡ false) (counters later : Counters)
    (bounded : KeepsBounds stop counters parts) where
  b : KeepsBounds None counters parts
  b = subst (λ (o : Option Stop). KeepsBounds o counters parts) none bounded

  still : (new : Parts) → KeepsBounds None later new → KeepsBounds stop later new
  still new h = subst (λ (o : Option Stop). KeepsBounds o later new) (sym none) h

  -- it turns back
  pub back-bounded : refusals later ≡ refusals counters + 1 → (seat : ℕ) (attempt : Attempt) → task_at parts.tasks seat ≡ Task.Running attempt
      → MayTurnBack attempt.tried.number parts.pool → (parts.limits.seats ≡ 1 → ⊥) → KeepsBounds stop later (has_turned_back seat attempt parts)
  back-bounded more seat attempt task may crowded = still (has_turned_back seat attempt parts) (record {
    few = subst (λ (n : ℕ). HasFewRollbacks n (has_turned_back seat attempt parts)) (sym more)
        (acted-few (refusals counters) (refusals counters + 1) parts s b.few seat attempt (Task.Running attempt) (Task.Undoing attempt UndoReason.RolledBack) task
        refl may (omega arith) (λ i e. e) (omega arith) parts.memory (parts.turns + 1));
    paid = back-paid parts s b.paid going seat attempt task;
    untried = λ one. absurd (crowded one);
  })

  module _ (same : refusals later ≡ refusals counters) where
    few-on : (new : Parts) → HasFewRollbacks (refusals counters) new → HasFewRollbacks (refusals later) new
    few-on new h = subst (λ (n : ℕ). HasFewRollbacks n new) (sym same) h

    -- a stop is kept
    pub stop-bounded : (why : Stop) → LeavesNoTry why parts → KeepsBounds (Some why) later (has_stopped parts)
    stop-bounded why leaves = record {
      few = few-on (has_stopped parts) (few-same (refusals counters) parts parts.memory parts.turns true (λ h. refl)
          (λ h. absurd (let clash : true ≡ false = h in cc)) b.few);
      paid = paid-any why (has_stopped parts) (stop-paid parts b.paid);
      untried = λ one. untried-any why parts one (b.untried one) leaves;
    }

    -- it begins
    pub begun-bounded : (seat number : ℕ) → task_at parts.tasks seat ≡ Task.Idle → seat < parts.limits.seats
        → KeepsBounds stop later (has_begun seat number parts)
    begun-bounded seat number idle there = still (has_begun seat number parts) (record {
      few = few-on (has_begun seat number parts) (begin-few (refusals counters) parts s b.few going seat number idle there);
      paid = begin-paid parts s b.paid seat number idle there;
      untried = λ one. begin-untried parts s (b.untried one) going seat number there;
    })

    module _ (seat : ℕ) (attempt : Attempt) (task : task_at parts.tasks seat ≡ Task.Running attempt) where
      access-bounded : (memory : MemoryView Val) → HasPaidTurns (record parts { memory = memory; turns = parts.turns + 1 })
          → KeepsBounds stop later (record parts { memory = memory; turns = parts.turns + 1 })
      access-bounded memory paid = still (record parts { memory = memory; turns = parts.turns + 1 }) (record {
        few = few-on (record parts { memory = memory; turns = parts.turns + 1 })
            (few-same (refusals counters) parts memory (parts.turns + 1) parts.stopped (λ h. h) (λ h. h) b.few);
        paid = paid;
        untried = λ one. record { none = (b.untried one).none; told = (b.untried one).told };
      })

      -- it reads, writes or makes a cell
      module _ (n : ℕ) (p : LocalState) (early : n < attempt.tried.steps + parts.limits.slice) where
        pub read-bounded : (l : Loc) → ComesTo (run_in parts seat attempt.tried.number) (Act.Reads l.0) n p → KeepsBounds stop later (has_read seat l parts)
        read-bounded l comes = access-bounded (has_read seat l parts).memory (read-paid parts s b.paid going seat attempt task n p early l comes)

        pub first-bounded : (l : Loc) (v : Val) → ComesTo (run_in parts seat attempt.tried.number) (Act.Writes l.0 v) n p
            → IsFree (cell_at (heap_in parts) l.0) → KeepsBounds stop later (has_written seat l v parts)
        first-bounded l v comes free =
            access-bounded (has_written seat l v parts).memory (first-paid parts s b.paid going seat attempt task n p early l v comes free)

        pub later-bounded : (l : Loc) (v : Val) → ComesTo (run_in parts seat attempt.tried.number) (Act.Writes l.0 v) n p
            → IsOwnedBy seat (cell_at (heap_in parts) l.0) → KeepsBounds stop later (has_written seat l v parts)
        later-bounded l v comes own =
            access-bounded (has_written seat l v parts).memory (later-paid parts s b.paid going seat attempt task n p early l v comes own)

        pub allocation-bounded : (sort : Sort) (ty : TyNo) (v : Val) → ComesTo (run_in parts seat attempt.tried.number) (Act.Allocates sort ty v) n p
            → KeepsBounds stop later (has_allocated seat sort ty v parts)
        allocation-bounded sort ty v comes =
            access-bounded (has_allocated seat sort ty v parts).memory (allocation-paid parts s b.paid going seat attempt task n p early sort ty v comes)

      -- its row is valid at a full slice
      pub check-bounded : (n : ℕ) → n ≡ attempt.tried.steps + parts.limits.slice → KeepsBounds stop later (has_checked seat n attempt parts)
      check-bounded n full = still (has_checked seat n attempt parts) (record {
        few = few-on (has_checked seat n attempt parts)
            (acted-few (refusals counters) (refusals counters) parts s b.few seat attempt (Task.Running attempt) (Task.Running (checked_attempt n attempt parts))
            task refl tt (omega arith) (λ i e. e) (omega arith) parts.memory (parts.turns + 1));
        paid = check-paid parts s b.paid going seat attempt task n full;
        untried = λ one.
            next-untried parts s (b.untried one) seat attempt (Task.Running attempt) task refl (has_checked seat n attempt parts)
            (Task.Running (checked_attempt n attempt parts)) refl refl refl (subst (IsToldOf parts.stopped) task ((b.untried one).told seat));
      })

      -- An entry was added for it.
      module _ (within : IsWithinRollbacks parts.pool) (n : ℕ) (p : LocalState) (used : HasUsed (run_in parts seat attempt.tried.number) n p)
          (low : attempt.tried.steps ≤ n) where
        pub ended-bounded : IsRising parts.pool.members → (ls : List ℕ) → KeepsBounds stop later (has_ended seat attempt.tried.number n p ls parts)
        ended-bounded rising ls = still (has_ended seat attempt.tried.number n p ls parts) (record {
          few = few-on (has_ended seat attempt.tried.number n p ls parts)
              (ended-few (refusals counters) parts s b.few within seat attempt n p ls task rising);
          paid = ended-paid parts s b.paid seat attempt task n p used low ls;
          untried = λ one.
              next-untried parts s (b.untried one) seat attempt (Task.Running attempt) task refl (has_ended seat attempt.tried.number n p ls parts) Task.Idle
              refl refl refl tt;
        })

        pub left-bounded : (ls : List ℕ) → KeepsBounds stop later (has_left seat attempt.tried.number n p ls parts)
        left-bounded ls = still (has_left seat attempt.tried.number n p ls parts) (record {
          few = few-on (has_left seat attempt.tried.number n p ls parts) (left-few (refusals counters) parts s b.few within seat attempt n p ls task);
          paid = left-paid parts s b.paid seat attempt task n p used low ls;
          untried = λ one.
              next-untried parts s (b.untried one) seat attempt (Task.Running attempt) task refl (has_left seat attempt.tried.number n p ls parts) Task.Idle
              refl refl refl tt;
        })

        pub noted-bounded : KeepsBounds stop later (has_noted seat attempt n p parts)
        noted-bounded = still (has_noted seat attempt n p parts) (record {
          few = few-on (has_noted seat attempt n p parts) (noted-few (refusals counters) parts s b.few within seat attempt n p task);
          paid = noted-paid parts s b.paid seat attempt task n p used low;
          untried = λ one.
              next-untried parts s (b.untried one) seat attempt (Task.Running attempt) task refl (has_noted seat attempt n p parts)
              (Task.Undoing (record attempt { logged = true }) UndoReason.Noted) refl refl refl refl;
        })

    -- it visits a member that is inside, or its device fails
    module _ (seat : ℕ) (attempt : Attempt) (task : task_at parts.tasks seat ≡ Task.Free attempt) where
      pub visited-bounded : IsWithinRollbacks parts.pool → (n : ℕ) (p : LocalState) (inside : Bool) (memory : MemoryView Val)
          → IsVisit parts attempt.tried.number n p inside memory → attempt.tried.steps ≤ n
          → KeepsBounds stop later (has_visited seat attempt.tried.number n p inside memory parts)
      visited-bounded within n p inside memory visit low = still (has_visited seat attempt.tried.number n p inside memory parts) (record {
        few = few-on (has_visited seat attempt.tried.number n p inside memory parts)
            (visited-few (refusals counters) parts s b.few within seat attempt n p inside memory task);
        paid = visited-paid parts s b.paid seat attempt task n p inside memory visit low;
        untried = λ one.
            next-untried parts s (b.untried one) seat attempt (Task.Free attempt) task refl (has_visited seat attempt.tried.number n p inside memory parts)
            Task.Idle refl refl refl tt;
      })

      pub refused-bounded : (device : ℕ) → KeepsBounds (Some (Stop.DeviceFault device)) later (has_been_refused seat attempt.tried.number parts)
      refused-bounded device = record {
        few = few-on (has_been_refused seat attempt.tried.number parts) (refused-few (refusals counters) parts s b.few seat attempt task);
        paid = tt;
        untried = λ one. tt;
      }

    -- a note is the last entry
    module _ (seat : ℕ) (task : Task) (side : Side) (number n : ℕ) (p : LocalState) (had : task_at parts.tasks seat ≡ task)
        (may : MayBeNoted parts seat task side number n p)
        (low : (attempt : Attempt) → attempt_of task ≡ Some attempt → attempt.tried.steps ≤ n) where
      pub cut-bounded : KeepsBounds (Some Stop.Spent) later (has_been_cut seat number n p task parts)
      cut-bounded = record {
        few = few-on (has_been_cut seat number n p task parts)
            (told-task-few (refusals counters) parts s b.few seat (note_entry EntryKind.Cut seat number n p) task side number n p parts.turns had may);
        paid = told-paid parts s b.paid seat EntryKind.Cut task side number n p had may low parts.turns (omega arith);
        untried = λ one. cut-untried parts s (b.untried one) one seat task side number n p had may;
      }

      pub tall-bounded : (who : ℕ) → KeepsBounds (Some (Stop.Tall who)) later (has_grown_tall seat number n p task parts)
      tall-bounded who = record {
        few = few-on (has_grown_tall seat number n p task parts)
            (told-task-few (refusals counters) parts s b.few seat (note_entry EntryKind.Tall seat number n p) task side number n p (parts.turns + 1) had may);
        paid = told-paid parts s b.paid seat EntryKind.Tall task side number n p had may low (parts.turns + 1) (omega arith);
        untried = λ one. tt;
      }

-- Undos, also once a stop is kept

paid-by : (stop : Option Stop) (old new : Parts) → (HasPaidTurns old → HasPaidTurns new) → ArePaid stop old → ArePaid stop new
paid-by None old new f h = f h
paid-by (Some Stop.Finished) old new f h = f h
paid-by (Some Stop.Blocked) old new f h = f h
paid-by (Some Stop.Spent) old new f h = f h
paid-by (Some (Stop.Tall number)) old new f h = f h
paid-by (Some Stop.NoMemory) old new f h = f h
paid-by (Some Stop.WriteFault) old new f h = f h
paid-by (Some (Stop.DeviceFault device)) old new f h = h

untried-by : (stop : Option Stop) (old new : Parts) → (IsUntried old → IsUntried new) → IsUntriedUntil stop old → IsUntriedUntil stop new
untried-by None old new f h = f h
untried-by (Some Stop.Finished) old new f h = h
untried-by (Some Stop.Blocked) old new f h = h
untried-by (Some Stop.Spent) old new f h = f h
untried-by (Some (Stop.Tall number)) old new f h = h
untried-by (Some Stop.NoMemory) old new f h = h
untried-by (Some Stop.WriteFault) old new f h = h
untried-by (Some (Stop.DeviceFault device)) old new f h = h

module _ (parts : Parts) (s : Simulates parts) (stop : Option Stop) (counters later : Counters) (same : refusals later ≡ refusals counters)
    (b : KeepsBounds stop counters parts) (seat : ℕ) (attempt : Attempt) where
  bounded-by : (new : Parts) → new.limits ≡ parts.limits → HasFewRollbacks (refusals counters) new → (HasPaidTurns parts → HasPaidTurns new)
      → (IsUntried parts → IsUntried new) → KeepsBounds stop later new
  bounded-by new limits few paid untried = record {
    few = subst (λ (n : ℕ). HasFewRollbacks n new) (sym same) few;
    paid = paid-by stop parts new paid b.paid;
    untried = λ one. untried-by stop parts new untried (b.untried (subst (λ (l : Limits). l.seats ≡ 1) limits one));
  }

  -- a seat that runs on undoes only once a stop is kept
  stopped-then : (t : Task) → is_undoing t ≡ false → (parts.stopped ≡ false → is_undoing t ≡ true) → parts.stopped ≡ true
  stopped-then t runs undoes = by parts.stopped refl
    where
      by : (k : Bool) → parts.stopped ≡ k → parts.stopped ≡ true
      by true e = e
      by false e = absurd (let clash : false ≡ true = sym runs ∙ undoes e in cc)

  undone-limits : (k : Bool) (x : Parts) → (if k then x else one_turn x).limits ≡ x.limits
  undone-limits true x = refl
  undone-limits false x = refl

  unvisited : (a : Attempt) → task_at parts.tasks seat ≡ Task.Free a → length (row_at parts.memory.rows seat).undos ≡ 0
  unvisited a e =
      let visits : Visits parts s.types seat a = subst (MeetsTask parts s.types seat) e (s.seats seat) in
      ap (λ (notes : Log Val). length notes.undos) visits.clear

  -- other entries are left
  pub undone-bounded : (t : Task) → task_at parts.tasks seat ≡ t → attempt_of t ≡ Some attempt → (parts.stopped ≡ false → is_undoing t ≡ true)
      → 1 < length (row_at parts.memory.rows seat).undos → KeepsBounds stop later (has_undone seat attempt (reason_to_undo t) parts)
  undone-bounded Task.Idle e h undoes more = absurd (let clash : attempt_of Task.Idle ≡ Some attempt = h in cc)
  undone-bounded (Task.Running a) e h undoes more =
      let same : a ≡ attempt = cc in
      let task : task_at parts.tasks seat ≡ Task.Running attempt = e ∙ ap Task.Running same in
      let stopped = stopped-then (Task.Running a) refl undoes in
      bounded-by (has_undone seat attempt UndoReason.Stopped parts) (undone-limits parts.stopped _)
      (undone-few (refusals counters) parts s b.few seat attempt (Task.Running attempt) task refl UndoReason.Stopped stopped refl refl refl)
      (λ paid. running-more_paid parts s paid seat attempt stopped task more)
      (λ u. let told : parts.stopped ≡ true → attempt.logged ≡ true = subst (IsToldOf parts.stopped) task (u.told seat) in
      undone-untried parts s u seat attempt (Task.Running attempt) task refl (told stopped) UndoReason.Stopped)
  undone-bounded (Task.Free a) e h undoes more = absurd (let none = unvisited a e in omega (arith, none, more))
  undone-bounded (Task.Undoing a r) e h undoes more =
      let same : a ≡ attempt = cc in
      let task : task_at parts.tasks seat ≡ Task.Undoing attempt r = e ∙ ap (λ (x : Attempt). Task.Undoing x r) same in
      bounded-by (has_undone seat attempt r parts) (undone-limits parts.stopped _)
      (undone-few (refusals counters) parts s b.few seat attempt (Task.Undoing attempt r) task refl r (subst (HasReason parts) task (b.few.reasons seat)) refl refl refl)
      (λ paid. undoing-more_paid parts s paid seat attempt r task more)
      (λ u. undone-untried parts s u seat attempt (Task.Undoing attempt r) task refl (subst (IsToldOf parts.stopped) task (u.told seat)) r)

  -- none is left, and the member is home
  pub home-bounded : (t : Task) → task_at parts.tasks seat ≡ t → attempt_of t ≡ Some attempt → (parts.stopped ≡ false → is_undoing t ≡ true)
      → length (row_at parts.memory.rows seat).undos ≤ 1 → KeepsBounds stop later (has_gone_home seat attempt (reason_to_undo t) parts)
  home-bounded Task.Idle e h undoes few = absurd (let clash : attempt_of Task.Idle ≡ Some attempt = h in cc)
  home-bounded (Task.Running a) e h undoes few =
      let same : a ≡ attempt = cc in
      let task : task_at parts.tasks seat ≡ Task.Running attempt = e ∙ ap Task.Running same in
      let stopped = stopped-then (Task.Running a) refl undoes in
      bounded-by (has_gone_home seat attempt UndoReason.Stopped parts) (undone-limits parts.stopped _)
      (running-home (refusals counters) parts s b.few seat attempt stopped task)
      (λ paid. running-home_paid parts s paid seat attempt stopped task few)
      (λ u. let told : parts.stopped ≡ true → attempt.logged ≡ true = subst (IsToldOf parts.stopped) task (u.told seat) in
      home-untried parts s u seat attempt (Task.Running attempt) task refl (told stopped) UndoReason.Stopped)
  home-bounded (Task.Free a) e h undoes few =
      let same : a ≡ attempt = cc in
      let task : task_at parts.tasks seat ≡ Task.Free attempt = e ∙ ap Task.Free same in
      let stopped = stopped-then (Task.Free a) refl undoes in
      bounded-by (has_gone_home seat attempt UndoReason.Stopped parts) (undone-limits parts.stopped _)
      (free-home (refusals counters) parts s b.few seat attempt stopped task)
      (λ paid. free-home_paid parts s paid seat attempt stopped task)
      (λ u. let told : parts.stopped ≡ true → attempt.logged ≡ true = subst (IsToldOf parts.stopped) task (u.told seat) in
      home-untried parts s u seat attempt (Task.Free attempt) task refl (told stopped) UndoReason.Stopped)
  home-bounded (Task.Undoing a r) e h undoes few =
      let same : a ≡ attempt = cc in
      let task : task_at parts.tasks seat ≡ Task.Undoing attempt r = e ∙ ap (λ (x : Attempt). Task.Undoing x r) same in
      bounded-by (has_gone_home seat attempt r parts) (undone-limits parts.stopped _)
      (undoing-home (refusals counters) parts s b.few seat attempt r task)
      (λ paid. undoing-home_paid parts s paid seat attempt r task few)
      (λ u. home-untried parts s u seat attempt (Task.Undoing attempt r) task refl (subst (IsToldOf parts.stopped) task (u.told seat)) r)

-- No try follows a stop

-- a stop that comes from outside leaves what it will
pub outside-leaves : (why : Stop) (parts : Parts) → is_from_outside why ≡ true → LeavesNoTry why parts
outside-leaves Stop.Finished parts e = tt
outside-leaves Stop.Blocked parts e = tt
outside-leaves Stop.Spent parts e = absurd (let clash : false ≡ true = e in cc)
outside-leaves (Stop.Tall number) parts e = tt
outside-leaves Stop.NoMemory parts e = tt
outside-leaves Stop.WriteFault parts e = tt
outside-leaves (Stop.DeviceFault device) parts e = tt

-- the only seat is idle
pub idle-leaves_no_try : (parts : Parts) → Simulates parts → (seat : ℕ) → seat < parts.limits.seats → task_at parts.tasks seat ≡ Task.Idle
    → LeavesNoTry Stop.Spent parts
idle-leaves_no_try parts s seat there idle one k a has =
    let only = only-seat parts s one k a has in
    let same : k ≡ seat = omega (arith, only, there, one) in
    absurd (let clash : ◌≡◌ {A = Option Attempt} None (Some a) = sym (ap attempt_of (ap (task_at parts.tasks) same ∙ idle)) ∙ has in cc)

-- the only seat is busy, but doesn't run code whose reads are valid
pub busy-leaves_no_try : (parts : Parts) (s : Simulates parts) (stop : Option Stop) → stop ≡ None → (counters : Counters) → KeepsBounds stop counters parts
    → IsLone parts counters → (seat : ℕ) (attempt : Attempt) → attempt_of (task_at parts.tasks seat) ≡ Some attempt
    → (AreValid (heap_in parts) seat (row_at parts.memory.rows seat).reads → working (task_at parts.tasks seat) ≡ None) → LeavesNoTry Stop.Spent parts
busy-leaves_no_try parts s stop none counters bounded lone seat attempt busy stuck one k a has =
    let same : seat ≡ k = only-seat parts s one seat attempt busy ∙ sym (only-seat parts s one k a has) in
    by (task_at parts.tasks seat) refl (ap (λ (n : ℕ). attempt_of (task_at parts.tasks n)) same ∙ has)
  where
    u : IsUntried parts
    u = (subst (λ (o : Option Stop). KeepsBounds o counters parts) none bounded).untried one

    by : (t : Task) → task_at parts.tasks seat ≡ t → attempt_of (task_at parts.tasks seat) ≡ Some a → a.logged ≡ true
    by Task.Idle e h = absurd (let clash : ◌≡◌ {A = Option Attempt} None (Some a) = sym (ap attempt_of e) ∙ h in cc)
    by (Task.Running x) e h =
        absurd (let clash : Some x ≡ None = sym (ap working e) ∙ stuck (lone.valid one seat x e) in cc)
    by (Task.Free x) e h =
        let visits : Visits parts s.types seat x = subst (MeetsTask parts s.types seat) e (s.seats seat) in
        let reads : (row_at parts.memory.rows seat).reads ≡ [] = ap (λ (notes : Log Val). notes.reads) visits.clear in
        let valid : AreValid (heap_in parts) seat (row_at parts.memory.rows seat).reads =
        subst (AreValid (heap_in parts) seat) (sym reads) (All-nil (IsValidNote (heap_in parts) seat)) in
        absurd (let clash : Some x ≡ None = sym (ap working e) ∙ stuck valid in cc)
    by (Task.Undoing x reason) e h =
        let same : Some x ≡ Some a = sym (ap attempt_of e) ∙ h in
        let is : x ≡ a = cc in
        subst (λ (y : Attempt). y.logged ≡ true) is (subst (IsToldOf parts.stopped) e (u.told seat))
