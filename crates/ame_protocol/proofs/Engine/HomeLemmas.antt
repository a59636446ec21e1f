-- A seat begins a member, and its member goes home.
use Rattle.std.proofs.Common.{◌≡◌, ℕ, suc, ◌+◌, ◌<◌, ◌≤◌, ◌⊎◌, inl, inr, Bool, true, false, List, [], ◌∷◌, ◌++◌, set, length, All, Option, Some, None, length-set, refl, sym, ap, ◌∙◌, subst, arith}
use Rattle.std.specs.Prelude.{option_map, unwrap_or, if◌then◌else◌}
use Rattle.std.proofs.lemmas.List.{append-nil}
use Rattle.std.proofs.lemmas.List.Elements.{All-push, All-nil}
use Rattle.ame_term.specs.Tree.{Typ, Val, Tree, unit_tree}
use Rattle.ame_term.specs.Maps.{at}
use Rattle.ame_term.specs.declared.types.Effect.{Effect}
use Rattle.ame_laws.proofs.MapLemmas.{each-at}
use Rattle.ame_pool.specs.declared.member.Member.{Member}
use Rattle.ame_pool.specs.Members.{find, is_ready}
use Rattle.ame_pool.specs.Found.{IsFoundAfter}
use Rattle.ame_pool.specs.Roster.{Roster}
use Rattle.ame_pool.specs.Calls.{IsAt, begun, at_home, at_rest, held, machine_of, inside_of}
use Rattle.ame_pool.specs.Keeps.{is_inside_at}
use Rattle.ame_pool.proofs.MemberLemmas.{found_altered}
use Rattle.ame_laws.specs.Typed.StoreTyping.{StoreTyping}
use Rattle.ame_laws.specs.Typed.TypedState.{IsMember}
use Rattle.ame_rows.specs.declared.notes.Undo.{Undo}
use Rattle.ame_store.specs.Cells.{IsOwnedBy}
use Rattle.ame_rows.specs.MemoryView.{MemoryView, Log, no_log, row_at}
use Rattle.ame_rows.specs.LettingGo.{notes_undone, undone_last}
use Rattle.ame_rows.proofs.LookupLemmas.{row_set_else}
use Rattle.ame_protocol.specs.Row.Heap.{cell_at}
use Rattle.ame_protocol.specs.Row.SeatRun.{IsSomewhere}
use Rattle.ame_protocol.specs.Row.Owes.{Owes}
use Rattle.ame_protocol.specs.Row.UndoLog.{IsUndoLog}
use Rattle.ame_protocol.specs.Row.Framed.{IsFramedAt}
use Rattle.ame_protocol.specs.Row.Own.{begun_seat}
use Rattle.ame_protocol.specs.Row.TypedHeap.{IsTypedUndo, IsTypedRun}
use Rattle.ame_protocol.specs.Row.Scoped.{live_types, IsScoped}
use Rattle.ame_protocol.proofs.Row.CellLemmas.{which}
use Rattle.ame_protocol.proofs.Row.OwnLemmas.{begun-somewhere, begun-owes}
use Rattle.ame_protocol.proofs.Row.SettledLemmas.{nothing-owned}
use Rattle.ame_protocol.proofs.Row.ReachLemmas.{where-within, fragment-grown}
use Rattle.ame_protocol.proofs.Row.TypedRunLemmas.{run-begun}
use Rattle.ame_protocol.proofs.Row.ScopedLemmas.{scoped-begun}
use Rattle.ame_protocol.proofs.Row.CommitLemmas.{typed-still}
use Rattle.ame_protocol.proofs.Row.TryLemmas.{try-begun}
use Rattle.ame_protocol.specs.declared.types.Attempt.{Attempt}
use Rattle.ame_protocol.specs.declared.types.UndoReason.{UndoReason}
use Rattle.ame_protocol.specs.declared.types.Task.{Task}
use Rattle.ame_protocol.specs.Engine.Logged.{heap_of, logged_run}
use Rattle.ame_protocol.specs.Engine.Parts.{Parts, whole_journal, heap_in, task_at, attempt_of, member_of, term_at, run_in}
use Rattle.ame_protocol.specs.Engine.Tasks.{is_busy_as, is_noted_for, IsSoundIn, HasAtWork, RunsProtected, Visits, Undoes, MeetsTask}
use Rattle.ame_protocol.specs.Engine.Simulates.{Simulates}
use Rattle.ame_protocol.specs.Engine.Events.{fresh_attempt, begun_task, has_begun, brought_home, with_try, has_undone, has_gone_home}
use Rattle.ame_protocol.proofs.Engine.MemoryLemmas.{memory-undo_log}
use Rattle.ame_protocol.proofs.Engine.MemoryEvents.{undo-committed, undo-kept, last-row}
use Rattle.ame_protocol.proofs.Engine.CarryLemmas.{GoesOn, StaysBusy, sound-on, tries-on}
use Rattle.ame_protocol.proofs.Engine.PoolLemmas.{machines-stay, sides-stay, inside-same, found-at, at-found, busy-apart}
use Rattle.ame_protocol.proofs.Engine.StepLemmas.{step, seat_within, few-later, task_here, task_else}
use Rattle.ame_protocol.proofs.Engine.UndoLemmas.{undone-memory, undo_counted}

-- what a seat has at work is busy
pub busy-of : (parts : Parts) (types : StoreTyping) (seat i : ℕ) (task : Task) → MeetsTask parts types seat task → member_of task ≡ Some i
    → (noted : Bool) × IsAt (is_busy_as noted) i parts.pool
busy-of parts types seat i Task.Idle h e = cc
busy-of parts types seat i (Task.Running attempt) h e =
    let same : attempt.tried.number ≡ i = cc in (false, subst (λ (k : ℕ). IsAt (is_busy_as false) k parts.pool) same h.work.busy)
busy-of parts types seat i (Task.Free attempt) h e =
    let same : attempt.tried.number ≡ i = cc in (false, subst (λ (k : ℕ). IsAt (is_busy_as false) k parts.pool) same h.work.busy)
busy-of parts types seat i (Task.Undoing attempt reason) h e =
    let same : attempt.tried.number ≡ i = cc in
    (is_noted_for reason, subst (λ (k : ℕ). IsAt (is_busy_as (is_noted_for reason)) k parts.pool) same h.work.busy)

-- a member that isn't altered stays as its seat has it
stays-else : (old new : Parts) (n : ℕ) (f : Member Tree → Member Tree) → IsFoundAfter n (option_map f) old.pool.members new.pool.members → (i : ℕ) → (i ≡ n → ⊥)
    → StaysBusy old new i
stays-else old new n f found i apart =
    let same = found.others i apart in
    record {
      machine = ap (option_map (λ (m : Member Tree). m.machine)) same;
      inside = ap (option_map (λ (m : Member Tree). m.inside)) same;
      busy = λ noted h.
          let m = found-at old.pool i (is_busy_as noted) h in at-found new.pool i (is_busy_as noted) m.0 (same ∙ m.1) m.2;
    }

-- Begin

module _ (parts : Parts) (s : Simulates parts) (seat number : ℕ) (idle : task_at parts.tasks seat ≡ Task.Idle) (there : seat < parts.limits.seats)
    (ready : IsAt is_ready number parts.pool) (left : parts.turns < parts.limits.turns) where
  abbrev later : ℕ
  later = parts.turns + 1

  abbrev attempt : Attempt
  attempt = fresh_attempt number parts

  abbrev begun_pool : Roster Tree
  begun_pool = held number parts.pool

  abbrev begun_parts : Task → Parts
  begun_parts task = record parts { pool = begun_pool; tasks = set parts.tasks seat task; turns = later }

  clear : row_at parts.memory.rows seat ≡ no_log
  clear = subst (MeetsTask parts s.types seat) idle (s.seats seat)

  found : IsFoundAfter number (option_map begun) parts.pool.members begun_pool.members
  found = found_altered number begun (λ _. refl) parts.pool.members

  machine-same : (i : ℕ) → machine_of i begun_pool ≡ machine_of i parts.pool
  machine-same = machines-stay number begun parts.pool.members begun_pool.members found (λ _. refl) (λ _. refl)

  inside-stays : (i : ℕ) → inside_of i begun_pool ≡ inside_of i parts.pool
  inside-stays = sides-stay number begun parts.pool.members begun_pool.members found (λ _. refl) (λ _. refl)

  goes : (task : Task) → GoesOn parts (begun_parts task)
  goes task = record { program = refl; signature = refl; limits = refl; more = []; journal = sym (append-nil (whole_journal parts)); turns = omega arith }

  away : (other i : ℕ) → member_of (task_at parts.tasks other) ≡ Some i → i ≡ number → ⊥
  away other i has same =
      let b = busy-of parts s.types other i (task_at parts.tasks other) (s.seats other) has in busy-apart parts.pool i number b.0 b.1 ready same

  member : Member Tree
  member = (found-at parts.pool number is_ready ready).0

  is-member : find number parts.pool.members ≡ Some member
  unfolding member
  is-member = (found-at parts.pool number is_ready ready).1

  is-begun : find number begun_pool.members ≡ Some (begun member)
  is-begun = found.here ∙ ap (option_map begun) is-member

  term-there : at s.r.state.members number ≡ Some (term_at begun_pool number)
  term-there =
      let tells = option_map (λ (m : Member Tree). m.machine) in
      s.stands.members number ∙ ap tells is-member
      ∙ ap (λ (o : Option Tree). Some (unwrap_or o unit_tree)) (sym (machine-same number ∙ ap tells is-member))

  work : (task : Task) → HasAtWork (begun_parts task) false attempt
  work task = record {
    busy = at-found begun_pool number (is_busy_as false) (begun member) is-begun refl;
    sound = try-begun parts.program (whole_journal parts) s.r number (term_at begun_pool number) s.stands.replayed term-there;
    few = omega arith;
  }

  typed-term : IsMember parts.signature s.types (term_at begun_pool number)
  typed-term =
      let live = live_types (heap_in parts) s.types in
      fragment-grown parts.signature live s.types (where-within (λ l. (cell_at (heap_in parts) l).live) s.types) Effect.Protected (term_at begun_pool number) Typ.Unit
      (each-at (IsMember parts.signature live) s.r.state.members number (term_at begun_pool number) term-there s.typed.now.members)

  run-begins : (task : Task) → run_in (begun_parts task) seat number ≡ begun_seat (term_at begun_pool number)
  run-begins task = ap (logged_run (term_at begun_pool number)) clear

  owns-nothing : (l : ℕ) → IsOwnedBy seat (cell_at (heap_in parts) l) → ⊥
  owns-nothing l =
      nothing-owned (heap_in parts) seat
      (subst (IsUndoLog (heap_in parts) seat) (ap (λ (n : Log Val). n.undos) clear) (memory-undo_log parts.memory s.consistent seat)) l

  -- the seat's own task, on either side
  begins : (inside : Bool) → is_inside_at parts.pool.members number ≡ inside
      → MeetsTask (begun_parts (begun_task inside attempt)) s.types seat (begun_task inside attempt)
  begins true e = record { work = work (Task.Free attempt); inside = side true e; clear = clear }
    where
      side : (b : Bool) → is_inside_at parts.pool.members number ≡ b → inside_of number begun_pool ≡ Some b
      side b e =
          let m : (elim (Some member) as (λ _. Bool) [ None ↦ false | Some x ↦ x.inside ]) ≡ b =
          subst (λ (o : Option (Member Tree)). (elim o [ None ↦ false | Some x ↦ x.inside ]) ≡ b) is-member e in
          inside-stays number ∙ ap (option_map (λ (x : Member Tree). x.inside)) is-member ∙ ap Some m
  begins false e =
      let term = term_at begun_pool number in
      let same = run-begins (Task.Running attempt) in
      record {
        work = work (Task.Running attempt);
        outside =
            let m : (elim (Some member) as (λ _. Bool) [ None ↦ false | Some x ↦ x.inside ]) ≡ false =
            subst (λ (o : Option (Member Tree)). (elim o [ None ↦ false | Some x ↦ x.inside ]) ≡ false) is-member e in
            inside-stays number ∙ ap (option_map (λ (x : Member Tree). x.inside)) is-member ∙ ap Some m;
        somewhere = subst IsSomewhere (sym same) (begun-somewhere term);
        owes = subst (Owes (heap_in parts) seat) (sym same) (begun-owes (heap_in parts) seat term owns-nothing);
        typed = subst (IsTypedRun parts.signature s.types) (sym same) (run-begun parts.signature s.types term typed-term);
        scoped =
            subst (IsScoped parts.signature s.types (heap_in parts) seat) (sym same)
            (scoped-begun parts.signature s.types (heap_in parts) seat (begun_seat term) s.r.state term number s.typed.now term-there);
      }

  module _ (task : Task) (its : member_of task ≡ Some number) (meets : MeetsTask (begun_parts task) s.types seat task) where
    at_seat : seat < length parts.tasks
    at_seat = omega (arith, s.bounded.tasks)

    -- two seats with one member would have had it before
    member-at : (k i : ℕ) → member_of (task_at (set parts.tasks seat task) k) ≡ Some i → ((k ≡ seat) × (i ≡ number)) ⊎ (((k ≡ seat) → ⊥) × (member_of (task_at parts.tasks k) ≡ Some i))
    member-at k i e = by (which k seat)
      where
        by : (k ≡ seat) ⊎ ((k ≡ seat) → ⊥) → ((k ≡ seat) × (i ≡ number)) ⊎ (((k ≡ seat) → ⊥) × (member_of (task_at parts.tasks k) ≡ Some i))
        by (inl same) =
            let here : member_of (task_at (set parts.tasks seat task) k) ≡ Some number =
            ap (λ (m : ℕ). member_of (task_at (set parts.tasks seat task) m)) same ∙ ap member_of (task_here parts.tasks seat task at_seat) ∙ its in
            let both : Some i ≡ Some number = sym e ∙ here in inl (same, cc)
        by (inr apart) = inr (apart, sym (ap member_of (task_else parts.tasks seat task k apart)) ∙ e)

    still-apart : (k other i : ℕ) → member_of (task_at (set parts.tasks seat task) k) ≡ Some i → member_of (task_at (set parts.tasks seat task) other) ≡ Some i → k ≡ other
    still-apart k other i e f = by (member-at k i e) (member-at other i f)
      where
        by : ((k ≡ seat) × (i ≡ number)) ⊎ (((k ≡ seat) → ⊥) × (member_of (task_at parts.tasks k) ≡ Some i))
            → ((other ≡ seat) × (i ≡ number)) ⊎ (((other ≡ seat) → ⊥) × (member_of (task_at parts.tasks other) ≡ Some i)) → k ≡ other
        by (inl x) (inl y) = x.0 ∙ sym y.0
        by (inl x) (inr y) = absurd (away other i y.1 x.1)
        by (inr x) (inl y) = absurd (away k i x.1 y.1)
        by (inr x) (inr y) = s.apart k other i x.1 y.1

    pub begins_stand : Simulates (begun_parts task)
    begins_stand =
        step parts (begun_parts task) s seat (record {
          r = s.r;
          types = s.types;
          on = goes task;
          grows = λ m c e. e;
          stands = record {
            replayed = s.stands.replayed;
            store = s.stands.store;
            members = λ i. s.stands.members i ∙ sym (machine-same i);
            inside = λ i. s.stands.inside i ∙ sym (inside-same parts.pool.members begun_pool.members i (inside-stays i));
            output = s.stands.output;
            next = s.stands.next;
          };
          typed = record { heap = s.typed.heap; now = s.typed.now; shared = s.typed.shared };
          consistent = s.consistent;
          framed = λ other apart. record { places = λ m. IsFramedAt.stays refl refl; longer = omega arith };
          rows = λ other apart. refl;
          tasks = task_else parts.tasks seat task;
          busy = λ other apart i has. stays-else parts (begun_parts task) number begun found i (away other i has);
          own = subst (MeetsTask (begun_parts task) s.types seat) (sym (task_here parts.tasks seat task at_seat)) meets;
          apart = still-apart;
          bounded = record {
            turns = omega arith;
            numbers = λ m. few-later parts.turns later (cell_at (heap_in parts) m) (omega arith) (s.bounded.numbers m);
            cells = let h = s.bounded.cells in omega arith;
            rows = s.bounded.rows;
            tasks = length-set parts.tasks seat task ∙ s.bounded.tasks;
          };
          sound = tries-on parts (begun_parts task) (goes task) parts.tried s.sound;
        })

  pub begun_stands : Simulates (has_begun seat number parts)
  begun_stands =
      let inside = is_inside_at parts.pool.members number in
      begins_stand (begun_task inside attempt) (numbered inside) (begins inside refl)
    where
      numbered : (b : Bool) → member_of (begun_task b attempt) ≡ Some number
      numbered true = refl
      numbered false = refl

-- The member goes home

abbrev pub gone_parts : ℕ → Attempt → UndoReason → ℕ → Parts → Parts
gone_parts seat attempt reason turns parts = record parts {
  memory = undone_last seat parts.memory;
  tasks = set parts.tasks seat Task.Idle;
  pool = brought_home reason attempt.tried.number parts.pool;
  tried = with_try attempt parts.tried;
  turns = turns;
}

pub home-found : (reason : UndoReason) (n : ℕ) (pool : Roster Tree) → (f : Member Tree → Member Tree) × IsFoundAfter n (option_map f) pool.members (brought_home reason n pool).members
    × ((m : Member Tree) → (f m).machine ≡ m.machine) × ((m : Member Tree) → (f m).inside ≡ m.inside)
home-found UndoReason.RolledBack n pool = (at_home true, found_altered n (at_home true) (λ _. refl) pool.members, λ _. refl, λ _. refl)
home-found UndoReason.Noted n pool = (at_rest, found_altered n at_rest (λ _. refl) pool.members, λ _. refl, λ _. refl)
home-found UndoReason.Stopped n pool = (at_home false, found_altered n (at_home false) (λ _. refl) pool.members, λ _. refl, λ _. refl)

module _ (parts : Parts) (s : Simulates parts) (seat : ℕ) (within : seat < length parts.memory.rows)
    (undos : All (IsTypedUndo parts.signature s.types) (row_at parts.memory.rows seat).undos) (turns : ℕ) (later : parts.turns ≤ turns) (left : turns ≤ parts.limits.turns)
    (attempt : Attempt) (reason : UndoReason) (has : attempt_of (task_at parts.tasks seat) ≡ Some attempt) (sound : IsSoundIn parts attempt.tried)
    (few : length (row_at parts.memory.rows seat).undos ≤ 1) where
  abbrev n : ℕ
  n = attempt.tried.number

  abbrev home_pool : Roster Tree
  home_pool = brought_home reason n parts.pool

  abbrev undone : MemoryView Val
  undone = undone_last seat parts.memory

  abbrev tasks : List Task
  tasks = set parts.tasks seat Task.Idle

  abbrev new : Parts
  new = record parts { memory = undone; tasks = tasks; pool = home_pool; tried = with_try attempt parts.tried; turns = turns }

  went : GoesOn parts new
  went = record { program = refl; signature = refl; limits = refl; more = []; journal = sym (append-nil (whole_journal parts)); turns = later }

  -- the seat's member is no other seat's
  its-own : (other i : ℕ) → (other ≡ seat → ⊥) → member_of (task_at parts.tasks other) ≡ Some i → i ≡ n → ⊥
  its-own other i apart e same =
      apart (s.apart other seat i e (ap (λ (o : Option Attempt). option_map (λ (a : Attempt). a.tried.number) o) has ∙ ap Some (sym same)))

  idle-here : task_at tasks seat ≡ Task.Idle
  idle-here = task_here parts.tasks seat Task.Idle (seat_within parts.tasks seat attempt has)

  was-there : (k i : ℕ) → member_of (task_at tasks k) ≡ Some i → member_of (task_at parts.tasks k) ≡ Some i
  was-there k i e = by (which k seat)
    where
      by : (k ≡ seat) ⊎ ((k ≡ seat) → ⊥) → member_of (task_at parts.tasks k) ≡ Some i
      by (inl same) =
          let none : member_of (task_at tasks k) ≡ None = ap (λ (m : ℕ). member_of (task_at tasks m)) same ∙ ap member_of idle-here in
          absurd (let clash : ◌≡◌ {A = Option ℕ} None (Some i) = sym none ∙ e in cc)
      by (inr apart) = sym (ap member_of (task_else parts.tasks seat Task.Idle k apart)) ∙ e

  all-sound : (told : Bool) → All (IsSoundIn new) (if told then parts.tried else parts.tried ++ attempt.tried ∷ [])
  all-sound true = tries-on parts new went parts.tried s.sound
  all-sound false = All-push (IsSoundIn new) parts.tried attempt.tried (tries-on parts new went parts.tried s.sound) (sound-on parts new went attempt.tried sound)

  next_seat : suc seat ≡ seat → ⊥
  next_seat e = omega arith

  pub gone_stands : Simulates new
  gone_stands =
      let d = undone-memory parts s seat within undos turns later in
      let f = home-found reason n parts.pool in
      let sides = sides-stay n f.0 parts.pool.members home_pool.members f.1 f.2 f.3 in
      let machines = machines-stay n f.0 parts.pool.members home_pool.members f.1 f.2 f.3 in
      let k = undo-committed parts.memory seat s.consistent within in
      step parts new s seat (record {
        r = s.r;
        types = s.types;
        on = went;
        grows = λ m c e. e;
        stands = record {
          replayed = s.stands.replayed;
          store = λ l. k l ∙ s.stands.store l;
          members = λ i. s.stands.members i ∙ sym (machines i);
          inside = λ i. s.stands.inside i ∙ sym (inside-same parts.pool.members home_pool.members i (sides i));
          output = s.stands.output;
          next = s.stands.next;
        };
        typed = record {
          heap = d.heap;
          now =
              typed-still parts.signature s.types s.types (suc seat) (heap_in parts) (heap_of undone) s.r.state (λ m c e. e)
              (d.framed (suc seat) next_seat) s.typed.now;
          shared = d.shared;
        };
        consistent = undo-kept parts.memory seat s.consistent within;
        framed = d.framed;
        rows = λ other apart. row_set_else parts.memory.rows seat other _ apart;
        tasks = task_else parts.tasks seat Task.Idle;
        busy = λ other apart i e. stays-else parts new n f.0 f.1 i (its-own other i apart e);
        own = subst (MeetsTask new s.types seat) (sym idle-here) (last-row parts.memory seat s.consistent within few);
        apart = λ k other i e f. s.apart k other i (was-there k i e) (was-there other i f);
        bounded = record {
          turns = left;
          numbers = d.numbers;
          cells = let h = s.bounded.cells in let e = d.count in omega arith;
          rows = length-set parts.memory.rows seat (notes_undone (row_at parts.memory.rows seat)) ∙ s.bounded.rows;
          tasks = length-set parts.tasks seat Task.Idle ∙ s.bounded.tasks;
        };
        sound = all-sound attempt.logged;
      })

pub gone_counted : (parts : Parts) (s : Simulates parts) (seat : ℕ) → seat < length parts.memory.rows → All (IsTypedUndo parts.signature s.types) (row_at parts.memory.rows seat).undos
    → (attempt : Attempt) (reason : UndoReason) → attempt_of (task_at parts.tasks seat) ≡ Some attempt → IsSoundIn parts attempt.tried
    → (parts.stopped ≡ false → parts.turns < parts.limits.turns) → length (row_at parts.memory.rows seat).undos ≤ 1 → Simulates (has_gone_home seat attempt reason parts)
gone_counted parts s seat within undos attempt reason has sound left few = by parts.stopped refl
  where
    by : (b : Bool) → parts.stopped ≡ b
        → Simulates (if b then gone_parts seat attempt reason parts.turns parts else gone_parts seat attempt reason (parts.turns + 1) parts)
    by true e = gone_stands parts s seat within undos parts.turns (omega arith) s.bounded.turns attempt reason has sound few
    by false e = let h = left e in gone_stands parts s seat within undos (parts.turns + 1) (omega arith) (omega arith) attempt reason has sound few

-- Each task that is undone

module _ (parts : Parts) (seat : ℕ) (attempt : Attempt) where
  has-rows : (s : Simulates parts) → attempt_of (task_at parts.tasks seat) ≡ Some attempt → seat < length parts.memory.rows
  has-rows s has = let h = seat_within parts.tasks seat attempt has in omega (arith, s.bounded.tasks, s.bounded.rows)

  module _ (reason : UndoReason) (s : Simulates parts) (task : task_at parts.tasks seat ≡ Task.Undoing attempt reason) (left : parts.stopped ≡ false → parts.turns < parts.limits.turns) where
    its-undoes : Undoes parts s.types seat attempt reason
    its-undoes = subst (MeetsTask parts s.types seat) task (s.seats seat)

    pub undoing_more : 1 < length (row_at parts.memory.rows seat).undos → Simulates (has_undone seat attempt reason parts)
    undoing_more more = undo_counted parts s seat (has-rows s (ap attempt_of task)) its-undoes.undos attempt reason (ap attempt_of task) its-undoes.work its-undoes.outside left more

    pub undoing_home : length (row_at parts.memory.rows seat).undos ≤ 1 → Simulates (has_gone_home seat attempt reason parts)
    undoing_home few = gone_counted parts s seat (has-rows s (ap attempt_of task)) its-undoes.undos attempt reason (ap attempt_of task) its-undoes.work.sound left few

  module _ (s : Simulates parts) (task : task_at parts.tasks seat ≡ Task.Running attempt) (left : parts.stopped ≡ false → parts.turns < parts.limits.turns) where
    its-runs : RunsProtected parts s.types seat attempt
    its-runs = subst (MeetsTask parts s.types seat) task (s.seats seat)

    pub running_more : 1 < length (row_at parts.memory.rows seat).undos → Simulates (has_undone seat attempt UndoReason.Stopped parts)
    running_more more =
        undo_counted parts s seat (has-rows s (ap attempt_of task)) its-runs.typed.undos attempt UndoReason.Stopped (ap attempt_of task) its-runs.work its-runs.outside left more

    pub running_home : length (row_at parts.memory.rows seat).undos ≤ 1 → Simulates (has_gone_home seat attempt UndoReason.Stopped parts)
    running_home few =
        gone_counted parts s seat (has-rows s (ap attempt_of task)) its-runs.typed.undos attempt UndoReason.Stopped (ap attempt_of task) its-runs.work.sound left few

  pub free_home : (s : Simulates parts) → task_at parts.tasks seat ≡ Task.Free attempt → (parts.stopped ≡ false → parts.turns < parts.limits.turns)
      → Simulates (has_gone_home seat attempt UndoReason.Stopped parts)
  free_home s task left =
      let h : Visits parts s.types seat attempt = subst (MeetsTask parts s.types seat) task (s.seats seat) in
      let none : (row_at parts.memory.rows seat).undos ≡ [] = ap (λ (n : Log Val). n.undos) h.clear in
      gone_counted parts s seat (has-rows s (ap attempt_of task)) (subst (All (IsTypedUndo parts.signature s.types)) (sym none) (All-nil (IsTypedUndo parts.signature s.types)))
      attempt UndoReason.Stopped (ap attempt_of task) h.work.sound left (let e = ap (λ (xs : List (Undo Val)). length xs) none in omega arith)
