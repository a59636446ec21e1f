-- Members that wait, while rows are undone, and once members go home.
use Rattle.std.proofs.Common.{◌≡◌, ℕ, ◌+◌, ◌<◌, ◌≤◌, ◌⊎◌, inl, inr, Bool, true, false, List, [], ◌∷◌, ◌++◌, set, length, All, Option, Some, None, refl, sym, ap, ◌∙◌, subst, arith}
use Rattle.std.specs.Prelude.{option_map, if◌then◌else◌}
use Rattle.std.proofs.lemmas.List.Elements.{All-nil}
use Rattle.ame_term.specs.Tree.{Val, Tree}
use Rattle.ame_pool.specs.Members.{find}
use Rattle.ame_pool.specs.Roster.{Roster}
use Rattle.ame_pool.specs.Calls.{at_home, at_rest, machine_of}
use Rattle.ame_pool.proofs.MemberLemmas.{found_altered}
use Rattle.ame_rows.specs.declared.notes.Undo.{Undo}
use Rattle.ame_rows.specs.declared.notes.Undo.TheVariants.{Wrote, Made}
use Rattle.ame_store.specs.declared.cell.Cell.{Cell}
use Rattle.ame_store.specs.Cells.{IsOwnedBy}
use Rattle.ame_machine.specs.Run.Local.{LocalState}
use Rattle.ame_rows.specs.MemoryView.{MemoryView, Log, row_at}
use Rattle.ame_rows.specs.LettingGo.{undone_by, undone_last}
use Rattle.ame_rows.proofs.EntryLemmas.{split_last}
use Rattle.ame_protocol.specs.Row.Heap.{Heap, cell_at}
use Rattle.ame_protocol.specs.Row.SeatRun.{SeatRun}
use Rattle.ame_protocol.specs.Row.Changed.{KeepsCommitted}
use Rattle.ame_protocol.specs.Row.Framed.{IsFramed}
use Rattle.ame_protocol.specs.Row.UndoLog.{undo_place, IsUndoLog}
use Rattle.ame_protocol.specs.Row.TypedHeap.{IsTypedUndo}
use Rattle.ame_protocol.specs.Row.Waiting.{IsWaiting}
use Rattle.ame_protocol.proofs.Row.CellLemmas.{which}
use Rattle.ame_protocol.proofs.Row.SettledLemmas.{nothing-owned}
use Rattle.ame_protocol.proofs.Row.WaitingLemmas.{waits-undone, waits-home}
use Rattle.ame_protocol.specs.declared.types.Attempt.{Attempt}
use Rattle.ame_protocol.specs.declared.types.UndoReason.{UndoReason}
use Rattle.ame_protocol.specs.declared.types.Task.{Task}
use Rattle.ame_protocol.specs.Engine.Logged.{heap_of}
use Rattle.ame_protocol.specs.Engine.Parts.{Parts, heap_in, task_at, attempt_of, member_of}
use Rattle.ame_protocol.specs.Engine.Tasks.{RunsProtected, Visits, Undoes, MeetsTask}
use Rattle.ame_protocol.specs.Engine.Simulates.{Simulates}
use Rattle.ame_protocol.specs.Engine.Events.{brought_home, has_undone, has_gone_home}
use Rattle.ame_protocol.proofs.Engine.MemoryLemmas.{memory-undo_log}
use Rattle.ame_protocol.proofs.Engine.MemoryEvents.{undo-becomes, undo-committed, undo-kept, undo-none, last-row}
use Rattle.ame_protocol.proofs.Engine.PoolLemmas.{machines-stay}
use Rattle.ame_protocol.proofs.Engine.StepLemmas.{seat_within, task_here, task_else, acted}
use Rattle.ame_protocol.proofs.Engine.UndoLemmas.{undone-memory}
use Rattle.ame_protocol.proofs.Engine.HomeLemmas.{gone_parts, home-found}
use Rattle.ame_protocol.specs.Waits.Waiting.{watched_by, MayHave, HasFailed, AreWaiting}
use Rattle.ame_protocol.proofs.Waits.WatchLemmas.{watched-of, unwatched, rest-waits}
use Rattle.ame_protocol.proofs.Waits.KeepLemmas.{waited}

-- what an undo makes of a cell
undone-number : (u : Undo Val) (cell : Cell Val) → (undone_by u cell).number ≡ cell.number + 1
undone-number (Wrote l number old) cell = refl
undone-number (Made l) cell = refl

undone-sort : (u : Undo Val) (cell : Cell Val) → (undone_by u cell).sort ≡ cell.sort
undone-sort (Wrote l number old) cell = refl
undone-sort (Made l) cell = refl

undone-live : (u : Undo Val) (cell : Cell Val) → (undone_by u cell).live ≡ cell.live
undone-live (Wrote l number old) cell = refl
undone-live (Made l) cell = refl

module _ (parts : Parts) (s : Simulates parts) (seat : ℕ) (attempt : Attempt) (has : attempt_of (task_at parts.tasks seat) ≡ Some attempt)
    (undos : All (IsTypedUndo parts.signature s.types) (row_at parts.memory.rows seat).undos) where
  abbrev number : ℕ
  number = attempt.tried.number

  abbrev undone : MemoryView Val
  undone = undone_last seat parts.memory

  in_rows : seat < length parts.memory.rows
  in_rows = let h = seat_within parts.tasks seat attempt has in omega (arith, s.bounded.tasks, s.bounded.rows)

  its-number : member_of (task_at parts.tasks seat) ≡ Some number
  its-number = ap (option_map (λ (a : Attempt). a.tried.number)) has

  committed : KeepsCommitted (heap_in parts) (heap_of undone)
  committed = undo-committed parts.memory seat s.consistent in_rows

  framed : (other : ℕ) → (other ≡ seat → ⊥) → IsFramed other (heap_in parts) (heap_of undone)
  framed = (undone-memory parts s seat in_rows undos parts.turns (omega arith)).framed

  -- its own member waits on
  own-undone : (watched : List ℕ) (run : SeatRun) (n : ℕ) (p : LocalState) → IsWaiting (heap_in parts) seat watched run n p
      → IsWaiting (heap_of undone) seat watched run n p
  own-undone watched run n p h = by (split_last (row_at parts.memory.rows seat).undos)
    where
      by : ((row_at parts.memory.rows seat).undos ≡ []) ⊎ ((front : List (Undo Val)) × (u : Undo Val) × ((row_at parts.memory.rows seat).undos ≡ front ++ u ∷ []))
          → IsWaiting (heap_of (undone_last seat parts.memory)) seat watched run n p
      by (inl none) = subst (λ (heap : Heap). IsWaiting heap seat watched run n p) (sym (undo-none parts.memory seat s.consistent in_rows none)) h
      by (inr x) =
          let l = undo_place x.1 in
          let was = cell_at (heap_in parts) l in
          waits-undone (heap_in parts) (heap_of (undone_last seat parts.memory)) seat l (undone_by x.1 was)
          (undo-becomes parts.memory seat s.consistent in_rows x.0 x.1 x.2)
          committed (undone-number x.1 was) (undone-sort x.1 was) (undone-live x.1 was) watched run n p h

  -- no other seat has its member
  its-alone : MayHave parts.tasks seat number
  its-alone other e = s.apart other seat number e its-number

  -- Others are left

  module _ (next : Task) (same : member_of next ≡ Some number) (turns : ℕ) (a : AreWaiting parts) where
    abbrev tasks : List Task
    tasks = set parts.tasks seat next

    abbrev new : Parts
    new = record parts { memory = undone; tasks = tasks; turns = turns }

    here : member_of (task_at tasks seat) ≡ Some number
    here = ap member_of (task_here parts.tasks seat next (seat_within parts.tasks seat attempt has)) ∙ same

    mine : (ws : List ℕ) → HasFailed parts number ws → HasFailed new number ws
    mine ws h = record {
      note = h.note;
      last = h.last;
      run = h.run;
      start = h.start;
      place = h.place;
      fresh = h.fresh;
      waits =
          λ k may.
          subst (λ (m : ℕ). IsWaiting (heap_of undone) m ws h.run h.note.steps h.place) (may seat here)
          (own-undone ws h.run h.note.steps h.place (h.waits seat its-alone));
    }

    pub undone-waiting : AreWaiting new
    undone-waiting = record { failed = λ i ws e. by i ws e (which i number) }
      where
        by : (i : ℕ) (ws : List ℕ) → watched_by i parts.pool ≡ Some ws → (i ≡ number) ⊎ ((i ≡ number) → ⊥) → HasFailed new i ws
        by i ws e (inl one) =
            subst (λ (k : ℕ). HasFailed new k ws) (sym one) (mine ws (a.failed number ws (ap (λ (k : ℕ). watched_by k parts.pool) (sym one) ∙ e)))
        by i ws e (inr apart) =
            waited parts new seat (record { framed = framed; tasks = task_else parts.tasks seat next }) i ws (record {
              before = e;
              stays = record { machine = refl; last = refl; committed = λ l there. committed l };
              apart = λ its. apart (let both : ◌≡◌ {A = Option ℕ} (Some number) (Some i) = sym its-number ∙ its in let one : number ≡ i = cc in sym one);
            }) a

  -- The member goes home

  module _ (reason : UndoReason) (turns : ℕ) (few : length (row_at parts.memory.rows seat).undos ≤ 1) (a : AreWaiting parts) where
    abbrev home_pool : Roster Tree
    home_pool = brought_home reason number parts.pool

    abbrev gone : Parts
    gone = gone_parts seat attempt reason turns parts

    owns-nothing : (l : ℕ) → IsOwnedBy seat (cell_at (heap_of undone) l) → ⊥
    owns-nothing =
        nothing-owned (heap_of undone) seat
        (subst (λ (n : Log Val). IsUndoLog (heap_of undone) seat n.undos) (last-row parts.memory seat s.consistent in_rows few)
        (memory-undo_log undone (undo-kept parts.memory seat s.consistent in_rows) seat))

    home-same : (i : ℕ) → machine_of i home_pool ≡ machine_of i parts.pool
    home-same i =
        let f = home-found reason number parts.pool in machines-stay number f.0 parts.pool.members home_pool.members f.1 f.2 f.3 i

    -- a member that waits at home was noted
    home-watched : (r : UndoReason) (ws : List ℕ) → watched_by number (brought_home r number parts.pool) ≡ Some ws → watched_by number parts.pool ≡ Some ws
    home-watched UndoReason.RolledBack ws e =
        let none =
        ap watched-of (found_altered number (at_home true) (λ _. refl) parts.pool.members).here ∙ unwatched (at_home true) (λ _. refl)
        (find number parts.pool.members) in
        absurd (let clash : ◌≡◌ {A = Option (List ℕ)} None (Some ws) = sym none ∙ e in cc)
    home-watched UndoReason.Noted ws e =
        sym (ap watched-of (found_altered number at_rest (λ _. refl) parts.pool.members).here ∙ rest-waits (find number parts.pool.members)) ∙ e
    home-watched UndoReason.Stopped ws e =
        let none =
        ap watched-of (found_altered number (at_home false) (λ _. refl) parts.pool.members).here ∙ unwatched (at_home false) (λ _. refl)
        (find number parts.pool.members) in
        absurd (let clash : ◌≡◌ {A = Option (List ℕ)} None (Some ws) = sym none ∙ e in cc)

    home : (ws : List ℕ) → HasFailed parts number ws → HasFailed gone number ws
    home ws h = record {
      note = h.note;
      last = h.last;
      run = h.run;
      start = home-same number ∙ h.start;
      place = h.place;
      fresh = h.fresh;
      waits =
          λ k may.
          waits-home (heap_of undone) seat k ws h.run h.note.steps h.place owns-nothing (own-undone ws h.run h.note.steps h.place (h.waits seat its-alone));
    }

    pub gone-waiting : AreWaiting gone
    gone-waiting = record { failed = λ i ws e. by i ws e (which i number) }
      where
        by : (i : ℕ) (ws : List ℕ) → watched_by i home_pool ≡ Some ws → (i ≡ number) ⊎ ((i ≡ number) → ⊥) → HasFailed gone i ws
        by i ws e (inl one) =
            subst (λ (k : ℕ). HasFailed gone k ws) (sym one)
            (home ws (a.failed number ws (home-watched reason ws (ap (λ (k : ℕ). watched_by k home_pool) (sym one) ∙ e))))
        by i ws e (inr apart) =
            let found = home-found reason number parts.pool in
            let told = found.1.others i apart in
            waited parts gone seat (record { framed = framed; tasks = task_else parts.tasks seat Task.Idle }) i ws (record {
              before = sym (ap watched-of told) ∙ e;
              stays = record { machine = home-same i; last = refl; committed = λ l there. committed l };
              apart = λ its. apart (let both : ◌≡◌ {A = Option ℕ} (Some number) (Some i) = sym its-number ∙ its in let one : number ≡ i = cc in sym one);
            }) a

-- Each task that is undone

module _ (parts : Parts) (s : Simulates parts) (a : AreWaiting parts) (seat : ℕ) (attempt : Attempt) where
  more-counted : (has : attempt_of (task_at parts.tasks seat) ≡ Some attempt) → All (IsTypedUndo parts.signature s.types) (row_at parts.memory.rows seat).undos
      → (reason : UndoReason)
      → AreWaiting (has_undone seat attempt reason parts)
  more-counted has undos reason = by parts.stopped
    where
      by : (b : Bool) → AreWaiting (if b then acted (undone_last seat parts.memory) (set parts.tasks seat (Task.Undoing attempt reason)) parts.turns parts
          else acted (undone_last seat parts.memory) (set parts.tasks seat (Task.Undoing attempt reason)) (parts.turns + 1) parts)
      by true = undone-waiting parts s seat attempt has undos (Task.Undoing attempt reason) refl parts.turns a
      by false = undone-waiting parts s seat attempt has undos (Task.Undoing attempt reason) refl (parts.turns + 1) a

  home-counted : (has : attempt_of (task_at parts.tasks seat) ≡ Some attempt) → All (IsTypedUndo parts.signature s.types) (row_at parts.memory.rows seat).undos
      → (reason : UndoReason)
      → length (row_at parts.memory.rows seat).undos ≤ 1 → AreWaiting (has_gone_home seat attempt reason parts)
  home-counted has undos reason few = by parts.stopped
    where
      by : (b : Bool) → AreWaiting (if b then gone_parts seat attempt reason parts.turns parts else gone_parts seat attempt reason (parts.turns + 1) parts)
      by true = gone-waiting parts s seat attempt has undos reason parts.turns few a
      by false = gone-waiting parts s seat attempt has undos reason (parts.turns + 1) few a

  module _ (reason : UndoReason) (task : task_at parts.tasks seat ≡ Task.Undoing attempt reason) where
    its-undoes : Undoes parts s.types seat attempt reason
    its-undoes = subst (MeetsTask parts s.types seat) task (s.seats seat)

    pub undoing-more : AreWaiting (has_undone seat attempt reason parts)
    undoing-more = more-counted (ap attempt_of task) its-undoes.undos reason

    pub undoing-home : length (row_at parts.memory.rows seat).undos ≤ 1 → AreWaiting (has_gone_home seat attempt reason parts)
    undoing-home few = home-counted (ap attempt_of task) its-undoes.undos reason few

  module _ (task : task_at parts.tasks seat ≡ Task.Running attempt) where
    its-runs : RunsProtected parts s.types seat attempt
    its-runs = subst (MeetsTask parts s.types seat) task (s.seats seat)

    pub running-more : AreWaiting (has_undone seat attempt UndoReason.Stopped parts)
    running-more = more-counted (ap attempt_of task) its-runs.typed.undos UndoReason.Stopped

    pub running-home : length (row_at parts.memory.rows seat).undos ≤ 1 → AreWaiting (has_gone_home seat attempt UndoReason.Stopped parts)
    running-home few = home-counted (ap attempt_of task) its-runs.typed.undos UndoReason.Stopped few

  pub free-home : task_at parts.tasks seat ≡ Task.Free attempt → AreWaiting (has_gone_home seat attempt UndoReason.Stopped parts)
  free-home task =
      let h : Visits parts s.types seat attempt = subst (MeetsTask parts s.types seat) task (s.seats seat) in
      let none : (row_at parts.memory.rows seat).undos ≡ [] = ap (λ (n : Log Val). n.undos) h.clear in
      home-counted (ap attempt_of task)
      (subst (All (IsTypedUndo parts.signature s.types)) (sym none) (All-nil (IsTypedUndo parts.signature s.types))) UndoReason.Stopped
      (let e = ap (λ (xs : List (Undo Val)). length xs) none in omega arith)
