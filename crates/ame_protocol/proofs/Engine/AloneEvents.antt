-- An exhausted member runs alone: the events that change tasks.
use Rattle.std.proofs.Common.{◌≡◌, ℕ, ◌+◌, ◌<◌, ◌==◌, ◌⊎◌, ◌||◌, inl, inr, Bool, true, false, List, set, length, Option, Some, None, IsTrue, refl, sym, ap, ◌∙◌, subst, arith}
use Rattle.std.specs.Prelude.{option_map, unwrap_or, if◌then◌else◌}
use Rattle.std.proofs.lemmas.List.Elements.{All-nil}
use Rattle.ame_term.specs.Tree.{Val, Tree}
use Rattle.ame_pool.specs.declared.member.Member.{Member}
use Rattle.ame_pool.specs.declared.member.MemberStanding.{MemberStanding}
use Rattle.ame_pool.specs.declared.oldest.Oldest.{Oldest}
use Rattle.ame_pool.specs.Members.{IsRising, find, is_busy, is_ready}
use Rattle.ame_pool.specs.Standings.{max_rollbacks}
use Rattle.ame_pool.specs.Roster.{Roster}
use Rattle.ame_pool.specs.Begin.{is_exhausted, oldest}
use Rattle.ame_pool.specs.Calls.{IsAt, begun, held, inside_of, removed, renewed, exchanged}
use Rattle.ame_pool.specs.Keeps.{is_inside_at}
use Rattle.ame_pool.proofs.MemberLemmas.{found_altered, found_except}
use Rattle.ame_rows.specs.MemoryView.{MemoryView, Log, no_log, row_at}
use Rattle.ame_machine.specs.Run.Local.{LocalState}
use Rattle.ame_rows.specs.LettingGo.{undone_last}
use Rattle.ame_protocol.specs.Row.SeatRun.{HasUsed, AreValid, IsValidNote}
use Rattle.ame_protocol.proofs.Row.CellLemmas.{which}
use Rattle.ame_protocol.specs.declared.types.Attempt.{Attempt}
use Rattle.ame_protocol.specs.declared.types.UndoReason.{UndoReason}
use Rattle.ame_protocol.specs.declared.types.Task.{Task}
use Rattle.ame_protocol.specs.Engine.Parts.{Parts, heap_in, task_at, attempt_of, member_of, run_in}
use Rattle.ame_protocol.specs.Engine.Tasks.{is_busy_as, is_noted_for, MeetsTask}
use Rattle.ame_protocol.specs.Engine.Simulates.{Simulates}
use Rattle.ame_protocol.specs.Engine.Alone.{is_of_protected, IsExhausted, RunsExclusively}
use Rattle.ame_protocol.specs.Engine.Events.{fresh_attempt, begun_task, checked_attempt, has_begun, has_checked, has_stopped, has_undone, has_gone_home, brought_home}
use Rattle.ame_protocol.specs.Engine.Events.{woken_for, with_newcomers, with_commit, has_ended, has_left}
use Rattle.ame_protocol.proofs.Engine.PoolLemmas.{found-at, at-found, inside-told}
use Rattle.ame_protocol.proofs.Engine.StepLemmas.{seat_within, task_here, task_else}
use Rattle.ame_protocol.proofs.Engine.GrowthLemmas.{rollbacks_of, keeps-on, woken-keeps, IsFreeFrom, woken-free, newcomers-keep, woken-rising, newcomers-rising}
use Rattle.ame_protocol.proofs.Engine.HomeLemmas.{gone_parts, home-found}
use Rattle.ame_protocol.proofs.Engine.CommitLemmas.{free-next, below-next}
use Rattle.ame_protocol.proofs.Engine.BeginLemmas.{Begins, oldest-begins, begins-beside}

-- Start and stop

-- Each seat is idle.
pub rest-alone : (parts : Parts) → ((seat : ℕ) → task_at parts.tasks seat ≡ Task.Idle) → RunsExclusively parts
rest-alone parts idle = record {
  alone = λ k other t exhausted e. absurd (nobody k exhausted.task);
  running = λ going k t exhausted. absurd (nobody k exhausted.task);
  valid = λ going k t exhausted. absurd (nobody k exhausted.task);
}
  where
    nobody : (k : ℕ) → is_of_protected (task_at parts.tasks k) ≡ true → ⊥
    nobody k e = let clash : false ≡ true = sym (ap is_of_protected (idle k)) ∙ e in cc

pub stop-alone : (parts : Parts) → RunsExclusively parts → RunsExclusively (has_stopped parts)
stop-alone parts a = record {
  alone = λ k other t exhausted. a.alone k other t (record { task = exhausted.task; has = exhausted.has; exhausted = exhausted.exhausted });
  running = λ going k t exhausted. absurd (let clash : true ≡ false = going in cc);
  valid = λ going k t exhausted. absurd (let clash : true ≡ false = going in cc);
}

-- A seat that has a member at work as protected code gets another task, of protected code

module _ (parts : Parts) (a : RunsExclusively parts) (seat : ℕ) (attempt : Attempt) (has : attempt_of (task_at parts.tasks seat) ≡ Some attempt)
    (protected : is_of_protected (task_at parts.tasks seat) ≡ true) (next : Task) (later : Attempt) (its : attempt_of next ≡ Some later)
    (same : later.tried.number ≡ attempt.tried.number) (memory : MemoryView Val) (turns : ℕ) where
  abbrev tasks : List Task
  tasks = set parts.tasks seat next

  abbrev new : Parts
  new = record parts { memory = memory; tasks = tasks; turns = turns }

  here : task_at tasks seat ≡ next
  here = task_here parts.tasks seat next (seat_within parts.tasks seat attempt has)

  was-protected : (k : ℕ) → is_of_protected (task_at tasks k) ≡ true → is_of_protected (task_at parts.tasks k) ≡ true
  was-protected k e = by (which k seat)
    where
      by : (k ≡ seat) ⊎ ((k ≡ seat) → ⊥) → is_of_protected (task_at parts.tasks k) ≡ true
      by (inl one) = subst (λ (m : ℕ). is_of_protected (task_at parts.tasks m) ≡ true) (sym one) protected
      by (inr apart) = sym (ap is_of_protected (task_else parts.tasks seat next k apart)) ∙ e

  was-exhausted : (k : ℕ) (t : Attempt) → IsExhausted new k t → (old : Attempt) × IsExhausted parts k old
  was-exhausted k t exhausted = by (which k seat)
    where
      by : (k ≡ seat) ⊎ ((k ≡ seat) → ⊥) → (old : Attempt) × IsExhausted parts k old
      by (inl one) =
          let mine : Some later ≡ Some t = sym its ∙ sym (ap attempt_of here) ∙ ap (λ (m : ℕ). attempt_of (task_at tasks m)) (sym one) ∙ exhausted.has in
          let is : later ≡ t = cc in (
            attempt,
            record {
              task = was-protected k exhausted.task;
              has = ap (λ (m : ℕ). attempt_of (task_at parts.tasks m)) one ∙ has;
              exhausted = subst (λ (i : ℕ). IsAt is_exhausted i parts.pool) (ap (λ (x : Attempt). x.tried.number) (sym is) ∙ same) exhausted.exhausted;
            },
          )
      by (inr apart) =
          (t, record { task = was-protected k exhausted.task; has = sym (ap attempt_of (task_else parts.tasks seat next k apart)) ∙ exhausted.has; exhausted = exhausted.exhausted })

  still-alone : (k other : ℕ) (t : Attempt) → IsExhausted new k t → is_of_protected (task_at tasks other) ≡ true → other ≡ k
  still-alone k other t exhausted e = let old = was-exhausted k t exhausted in a.alone k other old.0 old.1 (was-protected other e)

  -- an exhausted member is this seat's
  its-seat : (k : ℕ) (t : Attempt) → IsExhausted new k t → seat ≡ k
  its-seat k t exhausted = let old = was-exhausted k t exhausted in a.alone k seat old.0 old.1 protected

  -- no exhausted member of a row that is undone, until a stop is kept
  pub undone-alone : (parts.stopped ≡ false → (task_at parts.tasks seat ≡ Task.Running attempt) → ⊥) → RunsExclusively new
  undone-alone not_running = record {
    alone = still-alone;
    running = λ going k t exhausted. absurd (clash going k t exhausted);
    valid = λ going k t exhausted. absurd (clash going k t exhausted);
  }
    where
      clash : parts.stopped ≡ false → (k : ℕ) (t : Attempt) → IsExhausted new k t → ⊥
      clash going k t exhausted =
          let old = was-exhausted k t exhausted in
          let one = its-seat k t exhausted in
          let run = a.running going k old.0 old.1 in
          let at_seat : task_at parts.tasks seat ≡ Task.Running old.0 = ap (task_at parts.tasks) one ∙ run in
          let both : Some attempt ≡ Some old.0 = sym has ∙ ap attempt_of at_seat in
          let is : attempt ≡ old.0 = cc in not_running going (at_seat ∙ ap Task.Running (sym is))

  -- one that isn't exhausted turns back
  pub back-alone : (IsAt is_exhausted attempt.tried.number parts.pool → ⊥) → RunsExclusively new
  back-alone fresh = record {
    alone = still-alone;
    running = λ going k t exhausted. absurd (clash k t exhausted);
    valid = λ going k t exhausted. absurd (clash k t exhausted);
  }
    where
      clash : (k : ℕ) (t : Attempt) → IsExhausted new k t → ⊥
      clash k t exhausted =
          let old = was-exhausted k t exhausted in
          let one = its-seat k t exhausted in
          let both : Some attempt ≡ Some old.0 = sym has ∙ ap (λ (m : ℕ). attempt_of (task_at parts.tasks m)) one ∙ old.1.has in
          let is : attempt ≡ old.0 = cc in fresh (subst (λ (x : Attempt). IsAt is_exhausted x.tried.number parts.pool) (sym is) old.1.exhausted)

pub checked_alone : (parts : Parts) → RunsExclusively parts → (seat n : ℕ) (attempt : Attempt) → task_at parts.tasks seat ≡ Task.Running attempt
    → AreValid (heap_in parts) seat (run_in parts seat attempt.tried.number).reads → RunsExclusively (has_checked seat n attempt parts)
checked_alone parts a seat n attempt task valid = record {
  alone = still-alone parts a seat attempt (ap attempt_of task) (ap is_of_protected task) (Task.Running (checked_attempt n attempt parts)) (checked_attempt n attempt parts) refl refl parts.memory (parts.turns + 1);
  running = λ going k t exhausted. runs-on k t exhausted;
  valid = λ going k t exhausted. valid-on k t exhausted;
}
  where
    runs-on : (k : ℕ) (t : Attempt) → IsExhausted (has_checked seat n attempt parts) k t
        → task_at (set parts.tasks seat (Task.Running (checked_attempt n attempt parts))) k ≡ Task.Running t
    runs-on k t exhausted =
        let mine = checked_attempt n attempt parts in
        let done = Task.Running mine in
        let one = its-seat parts a seat attempt (ap attempt_of task) (ap is_of_protected task) done mine refl refl parts.memory (parts.turns + 1) k t exhausted in
        let at_it : task_at (set parts.tasks seat done) k ≡ done =
        ap (task_at (set parts.tasks seat done)) (sym one) ∙ task_here parts.tasks seat done (seat_within parts.tasks seat attempt (ap attempt_of task)) in
        let both : Some mine ≡ Some t = sym (ap attempt_of at_it) ∙ exhausted.has in
        let is : mine ≡ t = cc in at_it ∙ ap Task.Running is

    valid-on : (k : ℕ) (t : Attempt) → IsExhausted (has_checked seat n attempt parts) k t → AreValid (heap_in parts) k (run_in parts k t.tried.number).reads
    valid-on k t exhausted =
        let mine = checked_attempt n attempt parts in
        let one = its-seat parts a seat attempt (ap attempt_of task) (ap is_of_protected task) (Task.Running mine) mine refl refl parts.memory (parts.turns + 1) k t exhausted in
        subst (λ (m : ℕ). AreValid (heap_in parts) m (row_at parts.memory.rows m).reads) one valid

-- Begin

module _ (parts : Parts) (s : Simulates parts) (a : RunsExclusively parts) (seat number : ℕ) (idle : task_at parts.tasks seat ≡ Task.Idle) (there : seat < parts.limits.seats)
    (first : oldest parts.pool ≡ Oldest.Member number) (ready : IsAt is_ready number parts.pool) where
  abbrev attempt : Attempt
  attempt = fresh_attempt number parts

  begins : Begins parts.pool.members number
  begins = oldest-begins parts.pool number first

  -- what another seat has at work as protected code
  busy-protected : (k : ℕ) (t : Attempt) → attempt_of (task_at parts.tasks k) ≡ Some t → is_of_protected (task_at parts.tasks k) ≡ true
      → (x : Member Tree) × (find t.tried.number parts.pool.members ≡ Some x) × (is_busy x ≡ true) × (x.inside ≡ false)
  busy-protected k t has protected = by (task_at parts.tasks k) (s.seats k) has protected
    where
      busy-is : (noted : Bool) (x : Member Tree) → IsTrue (is_busy_as noted x) → is_busy x ≡ true
      busy-is noted x h = on noted x.standing h
        where
          on : (noted : Bool) (z : MemberStanding) → IsTrue (is_busy_as noted (record x { standing = z })) → is_busy (record x { standing = z }) ≡ true
          on true MemberStanding.Ready h = absurd (let clash : false ≡ true = h in cc)
          on false MemberStanding.Ready h = absurd (let clash : false ≡ true = h in cc)
          on true (MemberStanding.Busy w) h = refl
          on false (MemberStanding.Busy w) h = refl
          on true (MemberStanding.Parked locs) h = absurd (let clash : false ≡ true = h in cc)
          on false (MemberStanding.Parked locs) h = absurd (let clash : false ≡ true = h in cc)

      told : (noted : Bool) (i : ℕ) → IsAt (is_busy_as noted) i parts.pool → inside_of i parts.pool ≡ Some false
          → (x : Member Tree) × (find i parts.pool.members ≡ Some x) × (is_busy x ≡ true) × (x.inside ≡ false)
      told noted i h outside =
          let m = found-at parts.pool i (is_busy_as noted) h in
          let both : Some m.0.inside ≡ Some false = sym (ap (option_map (λ (z : Member Tree). z.inside)) m.1) ∙ outside in
          (m.0, m.1, busy-is noted m.0 m.2, cc)

      by : (task : Task) → MeetsTask parts s.types k task → attempt_of task ≡ Some t → is_of_protected task ≡ true
          → (x : Member Tree) × (find t.tried.number parts.pool.members ≡ Some x) × (is_busy x ≡ true) × (x.inside ≡ false)
      by Task.Idle h e f = absurd (let clash : false ≡ true = f in cc)
      by (Task.Running u) h e f =
          let is : u ≡ t = cc in
          subst (λ (z : Attempt). (x : Member Tree) × (find z.tried.number parts.pool.members ≡ Some x) × (is_busy x ≡ true) × (x.inside ≡ false)) is
          (told false u.tried.number h.work.busy h.outside)
      by (Task.Free u) h e f = absurd (let clash : false ≡ true = f in cc)
      by (Task.Undoing u reason) h e f =
          let is : u ≡ t = cc in
          subst (λ (z : Attempt). (x : Member Tree) × (find z.tried.number parts.pool.members ≡ Some x) × (is_busy x ≡ true) × (x.inside ≡ false)) is
          (told (is_noted_for reason) u.tried.number h.work.busy h.outside)

  abbrev pool : Roster Tree
  pool = held number parts.pool

  exhausted-back : (i : ℕ) → IsAt is_exhausted i pool → IsAt is_exhausted i parts.pool
  exhausted-back i h = by (which i number)
    where
      from : (o : Option (Member Tree)) → find number parts.pool.members ≡ o → IsAt is_exhausted number pool → IsAt is_exhausted number parts.pool
      from None e h =
          let f = found_altered number begun (λ _. refl) parts.pool.members in
          let m = found-at pool number is_exhausted h in
          absurd (let clash : ◌≡◌ {A = Option (Member Tree)} None (Some m.0) = sym (f.here ∙ ap (option_map begun) e) ∙ m.1 in cc)
      from (Some x) e h =
          let f = found_altered number begun (λ _. refl) parts.pool.members in
          let m = found-at pool number is_exhausted h in
          let both : Some (begun x) ≡ Some m.0 = sym (f.here ∙ ap (option_map begun) e) ∙ m.1 in
          let is : begun x ≡ m.0 = cc in
          at-found parts.pool number is_exhausted x e (subst (λ (z : Member Tree). IsTrue (is_exhausted z)) (sym is) m.2)

      by : (i ≡ number) ⊎ ((i ≡ number) → ⊥) → IsAt is_exhausted i parts.pool
      by (inl one) = subst (λ (k : ℕ). IsAt is_exhausted k parts.pool) (sym one) (from (find number parts.pool.members) refl (subst (λ (k : ℕ). IsAt is_exhausted k pool) one h))
      by (inr apart) =
          let f = found_altered number begun (λ _. refl) parts.pool.members in
          let m = found-at pool i is_exhausted h in at-found parts.pool i is_exhausted m.0 (sym (f.others i apart) ∙ m.1) m.2

  at_seat : seat < length parts.tasks
  at_seat = omega (arith, s.bounded.tasks)

  -- an exhausted member that another seat has at work as protected code was so before
  old-exhausted : (task : Task) (k : ℕ) (t : Attempt) → (k ≡ seat → ⊥)
      → IsExhausted (record parts { pool = pool; tasks = set parts.tasks seat task; turns = parts.turns + 1 }) k t → IsExhausted parts k t
  old-exhausted task k t apart exhausted = record {
    task = sym (ap is_of_protected (task_else parts.tasks seat task k apart)) ∙ exhausted.task;
    has = sym (ap attempt_of (task_else parts.tasks seat task k apart)) ∙ exhausted.has;
    exhausted = exhausted-back t.tried.number exhausted.exhausted;
  }

  protected-has : (task : Task) → is_of_protected task ≡ true → (t : Attempt) × (attempt_of task ≡ Some t)
  protected-has Task.Idle e = absurd (let clash : false ≡ true = e in cc)
  protected-has (Task.Running t) e = (t, refl)
  protected-has (Task.Free t) e = absurd (let clash : false ≡ true = e in cc)
  protected-has (Task.Undoing t reason) e = (t, refl)

  clear : row_at parts.memory.rows seat ≡ no_log
  clear = subst (MeetsTask parts s.types seat) idle (s.seats seat)

  abbrev begun_with_task : Task → Parts
  begun_with_task task = record parts { pool = pool; tasks = set parts.tasks seat task; turns = parts.turns + 1 }

  visit-alone : RunsExclusively (begun_with_task (Task.Free attempt))
  visit-alone = record {
    alone =
        λ k other t exhausted e. a.alone k other t (old-exhausted (Task.Free attempt) k t (away k exhausted.task) exhausted)
        (sym (ap is_of_protected (task_else parts.tasks seat (Task.Free attempt) other (away other e))) ∙ e);
    running =
        λ going k t exhausted. task_else parts.tasks seat (Task.Free attempt) k (away k exhausted.task)
        ∙ a.running going k t (old-exhausted (Task.Free attempt) k t (away k exhausted.task) exhausted);
    valid = λ going k t exhausted. a.valid going k t (old-exhausted (Task.Free attempt) k t (away k exhausted.task) exhausted);
  }
    where
      away : (k : ℕ) → is_of_protected (task_at (set parts.tasks seat (Task.Free (fresh_attempt number parts))) k) ≡ true → k ≡ seat → ⊥
      away k e one =
          let is = ap (task_at (set parts.tasks seat (Task.Free (fresh_attempt number parts)))) one ∙ task_here parts.tasks seat (Task.Free (fresh_attempt number parts)) at_seat in
          let clash : true ≡ false = sym e ∙ ap is_of_protected is in cc

  module _ (outside : is_inside_at parts.pool.members number ≡ false) where
    begins-outside : begins.member.inside ≡ false
    begins-outside =
        ap (λ (o : Option (Member Tree)). unwrap_or (option_map (λ (m : Member Tree). m.inside) o) false) (sym begins.found)
        ∙ sym (inside-told parts.pool.members number) ∙ outside

    clash : (k : ℕ) → is_of_protected (task_at parts.tasks k) ≡ true
        → ((x : Member Tree) (t : Attempt) → attempt_of (task_at parts.tasks k) ≡ Some t → find t.tried.number parts.pool.members ≡ Some x → (is_exhausted begins.member || is_exhausted x) ≡ true) → ⊥
    clash k protected exhausted =
        let t = protected-has (task_at parts.tasks k) protected in
        let x = busy-protected k t.0 t.1 protected in
        begins-beside parts.pool.members number begins begins-outside t.0.tried.number x.0 x.1 x.2 x.3 (exhausted x.0 t.0 t.1 x.1)

    or-right : (b c : Bool) → c ≡ true → (b || c) ≡ true
    or-right true c e = refl
    or-right false c e = e

    -- An exhausted member is at work on another seat.
    no-other : (k : ℕ) (t : Attempt) → IsExhausted parts k t → ⊥
    no-other k t exhausted =
        clash k exhausted.task
        (λ x u has found.
        let both : Some t ≡ Some u = sym exhausted.has ∙ has in
        let one : t ≡ u = cc in
        let m = found-at parts.pool t.tried.number is_exhausted exhausted.exhausted in
        let same : Some m.0 ≡ Some x = sym m.1 ∙ ap (λ (z : Attempt). find z.tried.number parts.pool.members) one ∙ found in
        let is : m.0 ≡ x = cc in or-right (is_exhausted begins.member) (is_exhausted x) (subst (λ (z : Member Tree). is_exhausted z ≡ true) is m.2))

    -- The member that begins is exhausted.
    no-beside : (k : ℕ) → is_of_protected (task_at parts.tasks k) ≡ true → IsAt is_exhausted number pool → ⊥
    no-beside k protected exhausted =
        let m = found-at parts.pool number is_exhausted (exhausted-back number exhausted) in
        let same : Some m.0 ≡ Some begins.member = sym m.1 ∙ begins.found in
        let is : m.0 ≡ begins.member = cc in
        clash k protected (λ x u has found. ap (λ (b : Bool). b || is_exhausted x) (subst (λ (z : Member Tree). is_exhausted z ≡ true) is m.2))

    at_it : task_at (set parts.tasks seat (Task.Running attempt)) seat ≡ Task.Running attempt
    at_it = task_here parts.tasks seat (Task.Running attempt) at_seat

    mine : (k : ℕ) (t : Attempt) → k ≡ seat → IsExhausted (begun_with_task (Task.Running attempt)) k t → attempt ≡ t
    mine k t one exhausted =
        let both : Some attempt ≡ Some t = sym (ap attempt_of at_it) ∙ ap (λ (m : ℕ). attempt_of (task_at (set parts.tasks seat (Task.Running attempt)) m)) (sym one) ∙ exhausted.has in cc

    run-alone : RunsExclusively (begun_with_task (Task.Running attempt))
    run-alone = record {
      alone = λ k other t exhausted e. both k other t exhausted e (which k seat) (which other seat);
      running = λ going k t exhausted. runs-at k t exhausted (which k seat);
      valid = λ going k t exhausted. valid-at k t exhausted (which k seat);
    }
      where
        both : (k other : ℕ) (t : Attempt) → IsExhausted (begun_with_task (Task.Running (fresh_attempt number parts))) k t
            → is_of_protected (task_at (set parts.tasks seat (Task.Running (fresh_attempt number parts))) other) ≡ true
            → (k ≡ seat) ⊎ ((k ≡ seat) → ⊥) → (other ≡ seat) ⊎ ((other ≡ seat) → ⊥) → other ≡ k
        both k other t exhausted e (inl one) (inl its) = its ∙ sym one
        both k other t exhausted e (inl one) (inr apart) =
            absurd (no-beside other (sym (ap is_of_protected (task_else parts.tasks seat (Task.Running (fresh_attempt number parts)) other apart)) ∙ e)
            (subst (λ (z : Attempt). IsAt is_exhausted z.tried.number (held number parts.pool)) (sym (mine k t one exhausted)) exhausted.exhausted))
        both k other t exhausted e (inr apart) its = absurd (no-other k t (old-exhausted (Task.Running (fresh_attempt number parts)) k t apart exhausted))

        runs-at : (k : ℕ) (t : Attempt) → IsExhausted (begun_with_task (Task.Running (fresh_attempt number parts))) k t → (k ≡ seat) ⊎ ((k ≡ seat) → ⊥)
            → task_at (set parts.tasks seat (Task.Running (fresh_attempt number parts))) k ≡ Task.Running t
        runs-at k t exhausted (inl one) = ap (task_at (set parts.tasks seat (Task.Running (fresh_attempt number parts)))) one ∙ at_it ∙ ap Task.Running (mine k t one exhausted)
        runs-at k t exhausted (inr apart) = absurd (no-other k t (old-exhausted (Task.Running (fresh_attempt number parts)) k t apart exhausted))

        valid-at : (k : ℕ) (t : Attempt) → IsExhausted (begun_with_task (Task.Running (fresh_attempt number parts))) k t → (k ≡ seat) ⊎ ((k ≡ seat) → ⊥)
            → AreValid (heap_in parts) k (row_at parts.memory.rows k).reads
        valid-at k t exhausted (inl one) =
            subst (λ (m : ℕ). AreValid (heap_in parts) m (row_at parts.memory.rows m).reads) (sym one)
            (subst (λ (n : Log Val). AreValid (heap_in parts) seat n.reads) (sym clear) (All-nil (IsValidNote (heap_in parts) seat)))
        valid-at k t exhausted (inr apart) = absurd (no-other k t (old-exhausted (Task.Running (fresh_attempt number parts)) k t apart exhausted))

  pub begun-alone : RunsExclusively (has_begun seat number parts)
  begun-alone = by (is_inside_at parts.pool.members number) refl
    where
      by : (b : Bool) → is_inside_at parts.pool.members number ≡ b → RunsExclusively (begun_with_task (begun_task b (fresh_attempt number parts)))
      by true e = visit-alone
      by false e = run-alone e

-- A seat that is idle afterwards

module _ (parts new : Parts) (a : RunsExclusively parts) (seat : ℕ) (stopped : new.stopped ≡ parts.stopped) (idle : task_at new.tasks seat ≡ Task.Idle)
    (others : (k : ℕ) → (k ≡ seat → ⊥) → task_at new.tasks k ≡ task_at parts.tasks k)
    (exhausted-before : (k i : ℕ) → (k ≡ seat → ⊥) → member_of (task_at parts.tasks k) ≡ Some i → IsAt is_exhausted i new.pool → IsAt is_exhausted i parts.pool)
    (protected : parts.stopped ≡ false → is_of_protected (task_at parts.tasks seat) ≡ true) where
  away : (k : ℕ) → is_of_protected (task_at new.tasks k) ≡ true → k ≡ seat → ⊥
  away k e one = let clash : true ≡ false = sym e ∙ ap (λ (m : ℕ). is_of_protected (task_at new.tasks m)) one ∙ ap is_of_protected idle in cc

  was-exhausted-else : (k : ℕ) (t : Attempt) → IsExhausted new k t → IsExhausted parts k t
  was-exhausted-else k t exhausted =
      let apart = away k exhausted.task in
      let has = sym (ap attempt_of (others k apart)) ∙ exhausted.has in
      record {
        task = sym (ap is_of_protected (others k apart)) ∙ exhausted.task;
        has = has;
        exhausted = exhausted-before k t.tried.number apart (ap (option_map (λ (x : Attempt). x.tried.number)) has) exhausted.exhausted;
      }

  going-none : new.stopped ≡ false → (k : ℕ) (t : Attempt) → IsExhausted new k t → ⊥
  going-none going k t exhausted = away k exhausted.task (sym (a.alone k seat t (was-exhausted-else k t exhausted) (protected (sym stopped ∙ going))))

  pub idle-alone : RunsExclusively new
  idle-alone = record {
    alone = λ k other t exhausted e. a.alone k other t (was-exhausted-else k t exhausted) (sym (ap is_of_protected (others other (away other e))) ∙ e);
    running = λ going k t exhausted. absurd (going-none going k t exhausted);
    valid = λ going k t exhausted. absurd (going-none going k t exhausted);
  }

-- Undos and the way home

pub more-alone : (parts : Parts) → RunsExclusively parts → (seat : ℕ) (attempt : Attempt) (reason : UndoReason) → attempt_of (task_at parts.tasks seat) ≡ Some attempt
    → is_of_protected (task_at parts.tasks seat) ≡ true → (parts.stopped ≡ false → (task_at parts.tasks seat ≡ Task.Running attempt) → ⊥)
    → RunsExclusively (has_undone seat attempt reason parts)
more-alone parts a seat attempt reason has protected not_running = by parts.stopped
  where
    by : (b : Bool) → RunsExclusively (if b then record parts { memory = undone_last seat parts.memory; tasks = set parts.tasks seat (Task.Undoing attempt reason) }
        else record parts { memory = undone_last seat parts.memory; tasks = set parts.tasks seat (Task.Undoing attempt reason); turns = parts.turns + 1 })
    by true = undone-alone parts a seat attempt has protected (Task.Undoing attempt reason) attempt refl refl (undone_last seat parts.memory) parts.turns not_running
    by false = undone-alone parts a seat attempt has protected (Task.Undoing attempt reason) attempt refl refl (undone_last seat parts.memory) (parts.turns + 1) not_running

pub home-alone : (parts : Parts) → Simulates parts → RunsExclusively parts → (seat : ℕ) (attempt : Attempt) (reason : UndoReason) → attempt_of (task_at parts.tasks seat) ≡ Some attempt
    → (parts.stopped ≡ false → is_of_protected (task_at parts.tasks seat) ≡ true) → RunsExclusively (has_gone_home seat attempt reason parts)
home-alone parts s a seat attempt reason has protected = by parts.stopped
  where
    exhausted-before : (k i : ℕ) → (k ≡ seat → ⊥) → member_of (task_at parts.tasks k) ≡ Some i
        → IsAt is_exhausted i (brought_home reason attempt.tried.number parts.pool) → IsAt is_exhausted i parts.pool
    exhausted-before k i apart its exhausted =
        let n = attempt.tried.number in
        let f = home-found reason n parts.pool in
        let other : i ≡ n → ⊥ =
        (λ same. apart (s.apart k seat i its (ap (option_map (λ (x : Attempt). x.tried.number)) has ∙ ap Some (sym same)))) in
        let m = found-at (brought_home reason n parts.pool) i is_exhausted exhausted in
        at-found parts.pool i is_exhausted m.0 (sym (f.1.others i other) ∙ m.1) m.2

    gone : (turns : ℕ) → RunsExclusively (gone_parts seat attempt reason turns parts)
    gone turns =
        idle-alone parts (gone_parts seat attempt reason turns parts) a seat refl (task_here parts.tasks seat Task.Idle (seat_within parts.tasks seat attempt has))
        (task_else parts.tasks seat Task.Idle) exhausted-before protected

    by : (b : Bool) → RunsExclusively (if b then gone_parts seat attempt reason parts.turns parts else gone_parts seat attempt reason (parts.turns + 1) parts)
    by true = gone parts.turns
    by false = gone (parts.turns + 1)

-- Commits

exhausted-told : (old new : Roster Tree) (i : ℕ) → rollbacks_of i new ≡ rollbacks_of i old → IsAt is_exhausted i new → IsAt is_exhausted i old
exhausted-told old new i same exhausted = by (find i old.members) refl
  where
    by : (o : Option (Member Tree)) → find i old.members ≡ o → IsAt is_exhausted i old
    by None e =
        let m = found-at new i is_exhausted exhausted in
        absurd (let clash : ◌≡◌ {A = Option ℕ} (Some m.0.rollbacks) None = sym (ap (option_map (λ (x : Member Tree). x.rollbacks)) m.1) ∙ same
        ∙ ap (option_map (λ (x : Member Tree). x.rollbacks)) e in cc)
    by (Some x) e =
        let m = found-at new i is_exhausted exhausted in
        let both : Some m.0.rollbacks ≡ Some x.rollbacks = sym (ap (option_map (λ (z : Member Tree). z.rollbacks)) m.1) ∙ same
        ∙ ap (option_map (λ (z : Member Tree). z.rollbacks)) e in
        let is : m.0.rollbacks ≡ x.rollbacks = cc in
        at-found old i is_exhausted x e (ap (λ (c : ℕ). c == max_rollbacks) (sym is) ∙ m.2)

module _ (parts : Parts) (s : Simulates parts) (a : RunsExclusively parts) (seat : ℕ) (attempt : Attempt) (task : task_at parts.tasks seat ≡ Task.Running attempt)
    (left : parts.turns < parts.limits.turns) (n : ℕ) (p : LocalState) (place : HasUsed (run_in parts seat attempt.tried.number) n p)
    (valid : AreValid (heap_in parts) seat (run_in parts seat attempt.tried.number).reads) (ls : List ℕ) where
  abbrev woken_pool : Roster Tree
  woken_pool = woken_for ls parts.pool

  abbrev later_pool : Roster Tree
  later_pool = with_newcomers parts.next p.spawns woken_pool

  free : IsFreeFrom parts.next woken_pool
  free = woken-free parts.next ls parts.pool (free-next parts s)

  module _ (final : Roster Tree) (others : (k : ℕ) → (k ≡ attempt.tried.number → ⊥) → find k final.members ≡ find k later_pool.members) where
    commit-before : (k i : ℕ) → (k ≡ seat → ⊥) → member_of (task_at parts.tasks k) ≡ Some i → IsAt is_exhausted i final → IsAt is_exhausted i parts.pool
    commit-before k i apart its exhausted =
        let other : i ≡ attempt.tried.number → ⊥ = (λ same. apart (s.apart k seat i its (ap member_of task ∙ ap Some (sym same)))) in
        let keeps =
        keeps-on parts.pool woken_pool later_pool i (woken-keeps ls parts.pool i)
        (newcomers-keep parts.next p.spawns woken_pool free i (below-next parts s seat attempt task left n p place valid ls k i its)) in
        exhausted-told parts.pool final i (ap (option_map (λ (x : Member Tree). x.rollbacks)) (others i other) ∙ keeps.rollbacks) exhausted

    abbrev committed : Parts
    committed =
        record (with_commit seat attempt.tried.number n p ls parts) { pool = final; tasks = set parts.tasks seat Task.Idle; turns = parts.turns + 1 }

    commit-alone : RunsExclusively committed
    commit-alone =
        idle-alone parts committed a seat refl (task_here parts.tasks seat Task.Idle (seat_within parts.tasks seat attempt (ap attempt_of task)))
        (task_else parts.tasks seat Task.Idle) commit-before (λ going. ap is_of_protected task)

  pub ended-alone : IsRising parts.pool.members → RunsExclusively (has_ended seat attempt.tried.number n p ls parts)
  ended-alone rising =
      commit-alone (removed attempt.tried.number later_pool)
      (found_except attempt.tried.number later_pool.members (newcomers-rising parts.next p.spawns woken_pool free (woken-rising ls parts.pool rising))).others

  pub left-alone : RunsExclusively (has_left seat attempt.tried.number n p ls parts)
  left-alone =
      commit-alone (exchanged attempt.tried.number p.term true later_pool)
      (found_altered attempt.tried.number (renewed p.term true) (λ _. refl) later_pool.members).others
