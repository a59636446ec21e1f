-- A member turns back seldom in a run that adds no entry of it.
use Rattle.std.proofs.Common.{◌≡◌, ◌≢◌, ℕ, zero, suc, ◌+◌, ◌<◌, ◌≤◌, ◌==◌, ◌⊎◌, inl, inr, Bool, true, false, cond, List, [], ◌∷◌, ◌++◌, set, All, Option, Some, None, refl, sym, ap, ◌∙◌, subst, arith}
use Rattle.std.specs.Prelude.{count_by, IsSomeAnd, if◌then◌else◌}
use Rattle.std.proofs.lemmas.Bool.Decides.{nat_tests}
use Rattle.std.proofs.lemmas.List.Elements.{All-nil, All-cons, All-head, All-tail}
use Rattle.std.proofs.lemmas.List.Sums.{sum_by-cons}
use Rattle.ame_term.specs.Tree.{Tree}
use Rattle.ame_journal.specs.declared.entry.Entry.{Entry}
use Rattle.ame_pool.specs.declared.member.Member.{Member}
use Rattle.ame_pool.specs.Members.{find}
use Rattle.ame_pool.specs.Roster.{Roster}
use Rattle.ame_pool.specs.Standings.{max_rollbacks}
use Rattle.ame_pool.specs.Calls.{begun, at_home, at_rest, home, renewed, noted_on}
use Rattle.ame_pool.specs.Keeps.{is_inside_at}
use Rattle.ame_machine.specs.Run.Local.{LocalState}
use Rattle.ame_rows.specs.MemoryView.{row_at}
use Rattle.ame_rows.specs.LettingGo.{undone_last}
use Rattle.ame_protocol.specs.declared.types.Attempt.{Attempt}
use Rattle.ame_protocol.specs.declared.types.Limits.{Limits}
use Rattle.ame_protocol.specs.declared.types.UndoReason.{UndoReason}
use Rattle.ame_protocol.specs.declared.types.Task.{Task}
use Rattle.ame_protocol.specs.Bounds.Rollbacks.{rollbacks_at, MayTurnBack, HasReason}
use Rattle.ame_protocol.specs.Bounds.Seats.{over_seats}
use Rattle.ame_protocol.specs.Engine.Events.{has_begun, fresh_attempt, begun_task, checked_attempt, ran_entry, brought_home, with_newcomers, woken_for, with_memory, with_task, with_try, one_turn, undo_turn}
use Rattle.ame_protocol.specs.Engine.Parts.{Parts, task_at, attempt_of, member_of, working}
use Rattle.ame_protocol.specs.Engine.Simulates.{Simulates}
use Rattle.ame_protocol.specs.Event.After.{after}
use Rattle.ame_protocol.specs.Event.Event.{Event}
use Rattle.ame_protocol.specs.Event.May.{May}
use Rattle.ame_protocol.specs.Event.Runs.{Follows, entries_told, entries_along}
use Rattle.ame_protocol.specs.Event.Sound.{Sound}
use Rattle.ame_protocol.specs.Event.EngineState.{EngineState}
use Rattle.ame_protocol.specs.Event.Undoing.{reason_to_undo}
use Rattle.ame_protocol.specs.Row.Waiting.{read_places}
use Rattle.ame_protocol.specs.Visits.Stops.{told_task}
use Rattle.ame_protocol.specs.Visits.Visit.{free_entry}
use Rattle.ame_protocol.specs.Waits.Noted.{stuck_entry}
use Rattle.ame_protocol.proofs.Row.CellLemmas.{which}
use Rattle.ame_protocol.proofs.Engine.StepLemmas.{task_here, task_else}
use Rattle.ame_protocol.proofs.Engine.CommitLemmas.{free-next}
use Rattle.ame_protocol.proofs.Engine.GrowthLemmas.{woken-free, woken-rising, newcomers-rising}
use Rattle.ame_protocol.proofs.Bounds.FewEntries.{told-few}
use Rattle.ame_protocol.proofs.Bounds.FewLemmas.{sums-step, within, here}
use Rattle.ame_protocol.proofs.Bounds.RollLemmas.{told_of, Unrolled, unrolled-on, then-rolls, altered-rolls, altered-unrolled, except-rolls, all-woken-unrolled, newcomers-unrolled, rolled-more}
use Rattle.ame_protocol.proofs.Event.RunLemmas.{sound-along}
use Rattle.ame_protocol.proofs.Event.SoundLemmas.{sound-after}
use Rattle.ame_theorems.specs.Backs.{turns_back, HasNoEntryOf, TurnsBackSeldom}

some-is : {A : Type 0} (a b : A) → Some a ≡ Some b → a ≡ b
some-is a b e = cc

one-self : (n : ℕ) → ◌≡◌ {A = ℕ} (cond (n == n) 1 0) 1
one-self n = grind (arith, nat_tests)

none-else : (n i : ℕ) → (i ≡ n → ⊥) → ◌≡◌ {A = ℕ} (cond (n == i) 1 0) 0
none-else n i apart = grind (arith, nat_tests, apart)

at-most : (n i : ℕ) → cond (n == i) 1 0 ≤ 1
at-most n i = grind (arith, nat_tests)

is-one : (n i : ℕ) → ◌≡◌ {A = ℕ} (cond (n == i) 1 0) 1 → n ≡ i
is-one n i one = grind (arith, nat_tests, one)

all-left : {X : Type 0} (P : X → Type 0) (xs ys : List X) → All P (xs ++ ys) → All P xs
all-left P [] ys all = All-nil P
all-left P (x ∷ xs) ys all = All-cons P x xs (All-head P x (xs ++ ys) all) (all-left P xs ys (All-tail P x (xs ++ ys) all))

all-right : {X : Type 0} (P : X → Type 0) (xs ys : List X) → All P (xs ++ ys) → All P ys
all-right P [] ys all = all
all-right P (x ∷ xs) ys all = all-right P xs ys (All-tail P x (xs ++ ys) all)

-- The sum over seats if at most one seat has a number.
zero-below : (n : ℕ) (f : ℕ → ℕ) → ((k : ℕ) → k < n → f k ≡ 0) → over_seats n f ≡ 0
zero-below zero f none = refl
zero-below (suc n) f none = let a = none n (omega arith) in let b = zero-below n f (λ k lt. none k (omega arith)) in omega arith

zero-or-one : (m : ℕ) → m ≤ 1 → (m ≡ 0) ⊎ (m ≡ 1)
zero-or-one zero le = inl refl
zero-or-one (suc m) le = inr (omega (arith, le))

-- none has one, or one does
abbrev HasOne : ℕ → (ℕ → ℕ) → Type 0
HasOne n f = (over_seats n f ≡ 0) ⊎ ((k : ℕ) × (f k ≡ 1) × (over_seats n f ≡ 1))

one-of : (n : ℕ) (f : ℕ → ℕ) → ((k : ℕ) → f k ≤ 1) → ((k j : ℕ) → f k ≡ 1 → f j ≡ 1 → k ≡ j) → HasOne n f
one-of zero f few same = inl refl
one-of (suc n) f few same = by (zero-or-one (f n) (few n)) (one-of n f few same)
  where
    unset : f n ≡ 1 → (k : ℕ) → k < n → (f k ≡ 0) ⊎ (f k ≡ 1) → f k ≡ 0
    unset one k below (inl none) = none
    unset one k below (inr two) = let at = same n k one two in absurd (omega (arith, at, below))

    by : (f n ≡ 0) ⊎ (f n ≡ 1) → HasOne n f → HasOne (suc n) f
    by (inl none) (inl others) = inl (omega (arith, none, others))
    by (inl none) (inr some) = let one = some.2 in inr (some.0, some.1, omega (arith, none, one))
    by (inr one) rest =
        let zero_rest = zero-below n f (λ k below. unset one k below (zero-or-one (f k) (few k))) in
        inr (n, one, omega (arith, one, zero_rest))

module _ (i : ℕ) where
  -- Returns one if a seat brings home the member that turned back.
  abbrev turning : Task → ℕ
  turning (Task.Undoing attempt UndoReason.RolledBack) = cond (attempt.tried.number == i) 1 0
  turning _ = 0

  -- how often the member turned back since its last entry
  abbrev backs : Parts → ℕ
  backs parts = rollbacks_at i parts.pool + over_seats parts.limits.seats (λ k. turning (task_at parts.tasks k))

  turning-few : (t : Task) → turning t ≤ 1
  turning-few Task.Idle = omega arith
  turning-few (Task.Running attempt) = omega arith
  turning-few (Task.Free attempt) = omega arith
  turning-few (Task.Undoing attempt UndoReason.RolledBack) = at-most attempt.tried.number i
  turning-few (Task.Undoing attempt UndoReason.Noted) = omega arith
  turning-few (Task.Undoing attempt UndoReason.Stopped) = omega arith

  turning-member : (t : Task) → turning t ≡ 1 → member_of t ≡ Some i
  turning-member Task.Idle one = absurd (omega arith)
  turning-member (Task.Running attempt) one = absurd (omega arith)
  turning-member (Task.Free attempt) one = absurd (omega arith)
  turning-member (Task.Undoing attempt UndoReason.RolledBack) one = ap (λ (n : ℕ). Some n) (is-one attempt.tried.number i one)
  turning-member (Task.Undoing attempt UndoReason.Noted) one = absurd (omega arith)
  turning-member (Task.Undoing attempt UndoReason.Stopped) one = absurd (omega arith)

  turning-may : (parts : Parts) (t : Task) → turning t ≡ 1 → HasReason parts t → MayTurnBack i parts.pool
  turning-may parts Task.Idle one why = absurd (omega arith)
  turning-may parts (Task.Running attempt) one why = absurd (omega arith)
  turning-may parts (Task.Free attempt) one why = absurd (omega arith)
  turning-may parts (Task.Undoing attempt UndoReason.RolledBack) one why = subst (λ (n : ℕ). MayTurnBack n parts.pool) (is-one attempt.tried.number i one) why
  turning-may parts (Task.Undoing attempt UndoReason.Noted) one why = absurd (omega arith)
  turning-may parts (Task.Undoing attempt UndoReason.Stopped) one why = absurd (omega arith)

  may-below : (o : Option (Member Tree)) → IsSomeAnd o (λ m. m.rollbacks < max_rollbacks) → told_of o < 8
  may-below None h = absurd h
  may-below (Some m) h = h

  -- it isn't often
  backs-few : (s : EngineState) → Sound s → backs s.parts ≤ 8
  backs-few s h = by (one-of s.parts.limits.seats (λ k. turning (task_at s.parts.tasks k)) (λ k. turning-few (task_at s.parts.tasks k)) same)
    where
      same : (k j : ℕ) → turning (task_at s.parts.tasks k) ≡ 1 → turning (task_at s.parts.tasks j) ≡ 1 → k ≡ j
      same k j one two = h.stands.apart k j i (turning-member (task_at s.parts.tasks k) one) (turning-member (task_at s.parts.tasks j) two)

      by : HasOne s.parts.limits.seats (λ k. turning (task_at s.parts.tasks k)) → backs s.parts ≤ 8
      by (inl none) = let few = told-few i s.parts.pool h.pool.few in omega (arith, none, few)
      by (inr some) =
          let below = may-below (find i s.parts.pool.members) (turning-may s.parts (task_at s.parts.tasks some.0) some.1 (h.bounds.few.reasons some.0)) in
          let one = some.2 in
          omega (arith, one, below)

  -- an event of one seat
  record Turns (old new : Parts) (seat : ℕ) (was now : Task) (more : ℕ) : Type 0 where
    inside : seat < old.limits.seats
    limits : new.limits.seats ≡ old.limits.seats
    had : task_at old.tasks seat ≡ was
    has : task_at new.tasks seat ≡ now
    others : (k : ℕ) → (k ≡ seat → ⊥) → task_at new.tasks k ≡ task_at old.tasks k
    pool : rollbacks_at i new.pool + turning now ≡ rollbacks_at i old.pool + turning was + more

  turns-on : (old new : Parts) (seat : ℕ) (was now : Task) (more : ℕ) → Turns old new seat was now more → backs new ≡ backs old + more
  turns-on old new seat was now more t =
      let sums = sums-step old new seat was now turning t.inside t.limits t.had t.has t.others in
      let pool = t.pool in
      omega (arith, sums, pool)

  module _ (parts : Parts) (s : Simulates parts) (seat : ℕ) (attempt : Attempt) (was : Task) (had : task_at parts.tasks seat ≡ was)
      (its : attempt_of was ≡ Some attempt) where
    -- of one that has the attempt at work
    seat-on : (new : Parts) (now : Task) (more : ℕ) → new.tasks ≡ set parts.tasks seat now → new.limits ≡ parts.limits
        → rollbacks_at i new.pool + turning now ≡ rollbacks_at i parts.pool + turning was + more → backs new ≡ backs parts + more
    seat-on new now more tasks limits pool =
        let has = ap attempt_of had ∙ its in
        turns-on parts new seat was now more (record {
          inside = within parts s seat attempt has;
          limits = ap (λ (l : Limits). l.seats) limits;
          had = had;
          has = ap (λ (ts : List Task). task_at ts seat) tasks ∙ here parts s seat attempt has now;
          others = λ k apart. ap (λ (ts : List Task). task_at ts k) tasks ∙ task_else parts.tasks seat now k apart;
          pool = pool;
        })

  undo-backs : (parts : Parts) → backs (undo_turn parts) ≡ backs parts
  undo-backs parts = by parts.stopped
    where
      by : (b : Bool) → backs (if b then parts else one_turn parts) ≡ backs parts
      by true = refl
      by false = refl

  undo-turning : (attempt : Attempt) (was : Task) → attempt_of was ≡ Some attempt → turning (Task.Undoing attempt (reason_to_undo was)) ≡ turning was
  undo-turning attempt Task.Idle its = refl
  undo-turning attempt (Task.Running a) its = refl
  undo-turning attempt (Task.Free a) its = refl
  undo-turning attempt (Task.Undoing a UndoReason.RolledBack) its = ap (λ (x : Attempt). cond (x.tried.number == i) 1 0) (sym (some-is a attempt its))
  undo-turning attempt (Task.Undoing a UndoReason.Noted) its = refl
  undo-turning attempt (Task.Undoing a UndoReason.Stopped) its = refl

  rolled-at : (n : ℕ) (pool : Roster Tree) → MayTurnBack n pool → rollbacks_at i (home n true pool) ≡ rollbacks_at i pool + cond (n == i) 1 0
  rolled-at n pool may = by (which i n)
    where
      by : (i ≡ n) ⊎ ((i ≡ n) → ⊥) → rollbacks_at i (home n true pool) ≡ rollbacks_at i pool + cond (n == i) 1 0
      by (inl same) =
          subst (λ (k : ℕ). rollbacks_at k (home n true pool) ≡ rollbacks_at k pool + cond (n == k) 1 0) (sym same)
          (let more = rolled-more n pool.members may in let one = one-self n in omega (arith, more, one))
      by (inr apart) =
          let other = (altered-rolls n (at_home true) (λ _. refl) pool.members).others i apart in
          let none = none-else n i apart in
          omega (arith, other, none)

  home-backs : (parts : Parts) (attempt : Attempt) (was : Task) → attempt_of was ≡ Some attempt → HasReason parts was
      → rollbacks_at i (brought_home (reason_to_undo was) attempt.tried.number parts.pool) + 0 ≡ rollbacks_at i parts.pool + turning was + 0
  home-backs parts attempt Task.Idle its why =
      let same = (altered-unrolled attempt.tried.number (at_home false) (λ _. refl) parts.pool.members (λ _. refl)).all i in omega (arith, same)
  home-backs parts attempt (Task.Running a) its why =
      let same = (altered-unrolled attempt.tried.number (at_home false) (λ _. refl) parts.pool.members (λ _. refl)).all i in omega (arith, same)
  home-backs parts attempt (Task.Free a) its why =
      let same = (altered-unrolled attempt.tried.number (at_home false) (λ _. refl) parts.pool.members (λ _. refl)).all i in omega (arith, same)
  home-backs parts attempt (Task.Undoing a UndoReason.RolledBack) its why =
      subst (λ (x : Attempt). rollbacks_at i (home x.tried.number true parts.pool) + 0 ≡ rollbacks_at i parts.pool + cond (a.tried.number == i) 1 0 + 0)
      (some-is a attempt its) (let more = rolled-at a.tried.number parts.pool why in omega (arith, more))
  home-backs parts attempt (Task.Undoing a UndoReason.Noted) its why =
      let same = (altered-unrolled attempt.tried.number at_rest (λ _. refl) parts.pool.members (λ _. refl)).all i in omega (arith, same)
  home-backs parts attempt (Task.Undoing a UndoReason.Stopped) its why =
      let same = (altered-unrolled attempt.tried.number (at_home false) (λ _. refl) parts.pool.members (λ _. refl)).all i in omega (arith, same)

  told-turning : (t : Task) → turning (told_task t) ≡ turning t
  told-turning Task.Idle = refl
  told-turning (Task.Running attempt) = refl
  told-turning (Task.Free attempt) = refl
  told-turning (Task.Undoing attempt UndoReason.RolledBack) = refl
  told-turning (Task.Undoing attempt UndoReason.Noted) = refl
  told-turning (Task.Undoing attempt UndoReason.Stopped) = refl

  works : (t : Task) (attempt : Attempt) → working t ≡ Some attempt → attempt_of t ≡ Some attempt
  works Task.Idle attempt e = cc
  works (Task.Running a) attempt e = e
  works (Task.Free a) attempt e = e
  works (Task.Undoing a reason) attempt e = cc

  begun-turning : (b : Bool) (attempt : Attempt) → turning (begun_task b attempt) ≡ 0
  begun-turning true attempt = refl
  begun-turning false attempt = refl

  -- no entry of an event is one of the member
  abbrev TellsNone : Event → Type 0
  TellsNone e = All (λ (entry : Entry). entry.number ≢ i) (entries_told e)

  module _ (s : EngineState) (h : Sound s) where
    abbrev parts : Parts
    parts = s.parts

    later : (ls : List ℕ) (p : LocalState) → Unrolled parts.pool.members (with_newcomers parts.next p.spawns (woken_for ls parts.pool)).members
    later ls p =
        unrolled-on parts.pool.members (woken_for ls parts.pool).members (with_newcomers parts.next p.spawns (woken_for ls parts.pool)).members
        (all-woken-unrolled ls parts.pool)
        (newcomers-unrolled parts.next p.spawns (woken_for ls parts.pool) (woken-free parts.next ls parts.pool (free-next parts h.stands)))

    -- An entry that is added is another member's.
    other : (entry : Entry) → All (λ (x : Entry). x.number ≢ i) (entry ∷ []) → i ≡ entry.number → ⊥
    other entry none same = All-head (λ (x : Entry). x.number ≢ i) entry [] none (sym same)

    step : (e : Event) → May e s → TellsNone e → backs (after e s).parts ≡ backs parts + cond (turns_back i e) 1 0
    step (Event.Begin seat number) may none =
        let task = begun_task (is_inside_at parts.pool.members number) (fresh_attempt number parts) in
        turns-on parts (has_begun seat number parts) seat Task.Idle task 0 (record {
          inside = may.1.there;
          limits = refl;
          had = may.1.idle;
          has = let there = may.1.there in let all = h.stands.bounded.tasks in task_here parts.tasks seat task (omega (arith, there, all));
          others = λ k apart. task_else parts.tasks seat task k apart;
          pool =
              let same = (altered-unrolled number begun (λ _. refl) parts.pool.members (λ _. refl)).all i in
              let zero = begun-turning (is_inside_at parts.pool.members number) (fresh_attempt number parts) in
              omega (arith, same, zero);
        })
    step (Event.Read seat l) may none = omega arith
    step (Event.Write seat l v) may none = omega arith
    step (Event.Alloc seat sort ty v) may none = omega arith
    step (Event.Check seat attempt steps) may none =
        seat-on parts h.stands seat attempt (Task.Running attempt) may.1.1.task refl (after (Event.Check seat attempt steps) s).parts
        (Task.Running (checked_attempt steps attempt parts)) 0 refl refl (omega arith)
    step (Event.TurnBack seat attempt why) may none =
        seat-on parts h.stands seat attempt (Task.Running attempt) may.1 refl (after (Event.TurnBack seat attempt why) s).parts
        (Task.Undoing attempt UndoReason.RolledBack) (cond (attempt.tried.number == i) 1 0) refl refl (omega arith)
    step (Event.End seat attempt steps place woken) may none =
        let n = attempt.tried.number in
        let mid = with_newcomers parts.next place.spawns (woken_for woken parts.pool) in
        let new = (after (Event.End seat attempt steps place woken) s).parts in
        let rises = newcomers-rising parts.next place.spawns (woken_for woken parts.pool) (woken-free parts.next woken parts.pool (free-next parts h.stands))
        (woken-rising woken parts.pool h.pool.rising) in
        let rolls = then-rolls parts.pool.members mid.members new.pool.members n (later woken place) (except-rolls n mid.members rises) in
        let same = rolls.others i (other (ran_entry seat n steps place) none) in
        seat-on parts h.stands seat attempt (Task.Running attempt) may.1.task refl new Task.Idle 0 refl refl (omega (arith, same))
    step (Event.Leave seat attempt steps place woken) may none =
        let n = attempt.tried.number in
        let mid = with_newcomers parts.next place.spawns (woken_for woken parts.pool) in
        let new = (after (Event.Leave seat attempt steps place woken) s).parts in
        let rolls = then-rolls parts.pool.members mid.members new.pool.members n (later woken place) (altered-rolls n (renewed place.term true) (λ _. refl) mid.members) in
        let same = rolls.others i (other (ran_entry seat n steps place) none) in
        seat-on parts h.stands seat attempt (Task.Running attempt) may.1.task refl new Task.Idle 0 refl refl (omega (arith, same))
    step (Event.Note seat attempt steps place) may none =
        let locs = read_places (row_at parts.memory.rows seat).reads in
        let same = (altered-rolls attempt.tried.number (noted_on locs) (λ _. refl) parts.pool.members).others i (other (stuck_entry seat attempt.tried.number steps place) none) in
        seat-on parts h.stands seat attempt (Task.Running attempt) may.1.task refl (after (Event.Note seat attempt steps place) s).parts
        (Task.Undoing (record attempt { logged = true }) UndoReason.Noted) 0 refl refl (omega (arith, same))
    step (Event.Visit seat attempt steps place inside memory) may none =
        let n = attempt.tried.number in
        let mid = with_newcomers parts.next place.spawns parts.pool in
        let new = (after (Event.Visit seat attempt steps place inside memory) s).parts in
        let rolls = then-rolls parts.pool.members mid.members new.pool.members n (newcomers-unrolled parts.next place.spawns parts.pool (free-next parts h.stands))
        (altered-rolls n (renewed place.term inside) (λ _. refl) mid.members) in
        let same = rolls.others i (other (free_entry seat n steps place) none) in
        seat-on parts h.stands seat attempt (Task.Free attempt) may.1.task refl new Task.Idle 0 refl refl (omega (arith, same))
    step (Event.Refuse seat attempt device) may none =
        let same = (altered-unrolled attempt.tried.number (at_home false) (λ _. refl) parts.pool.members (λ _. refl)).all i in
        seat-on parts h.stands seat attempt (Task.Free attempt) may.1 refl (after (Event.Refuse seat attempt device) s).parts Task.Idle 0 refl refl
        (omega (arith, same))
    step (Event.Undo seat attempt) may none =
        let was = task_at parts.tasks seat in
        let now = Task.Undoing attempt (reason_to_undo was) in
        let new = with_task seat now (with_memory (undone_last seat parts.memory) parts) in
        let same = undo-turning attempt was may.0.has in
        undo-backs new ∙ seat-on parts h.stands seat attempt was refl may.0.has new now 0 refl refl (omega (arith, same))
    step (Event.Home seat attempt) may none =
        let was = task_at parts.tasks seat in
        let new = with_task seat Task.Idle (record parts {
          memory = undone_last seat parts.memory;
          pool = brought_home (reason_to_undo was) attempt.tried.number parts.pool;
          tried = with_try attempt parts.tried;
        }) in
        undo-backs new
        ∙ seat-on parts h.stands seat attempt was refl may.0.has new Task.Idle 0 refl refl (home-backs parts attempt was may.0.has (h.bounds.few.reasons seat))
    step (Event.Cut seat attempt steps place) may none =
        let was = task_at parts.tasks seat in
        let same = told-turning was in
        seat-on parts h.stands seat attempt was refl (works was attempt may.2.1.works) (after (Event.Cut seat attempt steps place) s).parts (told_task was) 0
        refl refl (omega (arith, same))
    step (Event.Tall seat attempt steps place) may none =
        let was = task_at parts.tasks seat in
        let same = told-turning was in
        seat-on parts h.stands seat attempt was refl (works was attempt may.1.1.works) (after (Event.Tall seat attempt steps place) s).parts (told_task was) 0
        refl refl (omega (arith, same))
    step (Event.Halt why) may none = omega arith

  -- along a run with no entry of the member
  along : (es : List Event) (s end : EngineState) → Follows s es end → Sound s → HasNoEntryOf i es → backs end.parts ≡ backs s.parts + count_by (turns_back i) es
  along [] s end run h none = let same = ap (λ (x : EngineState). backs x.parts) run in omega (arith, same)
  along (e ∷ es) s end run h none =
      let P : Entry → Type 0 = λ entry. entry.number ≢ i in
      let first = step s h e run.0 (all-left P (entries_told e) (entries_along es) none) in
      let rest = along es (after e s) end run.1 (sound-after e s run.0 h) (all-right P (entries_told e) (entries_along es) none) in
      let more : count_by (turns_back i) (e ∷ es) ≡ cond (turns_back i e) 1 0 + count_by (turns_back i) es = sum_by-cons (λ (x : Event). cond (turns_back i x) 1 0) e es in
      omega (arith, first, rest, more)

-- a run of two parts comes to a state between
parted : (xs ys : List Event) (s end : EngineState) → Follows s (xs ++ ys) end → (mid : EngineState) × Follows s xs mid × Follows mid ys end
parted [] ys s end run = (s, refl, run)
parted (x ∷ xs) ys s end run = let rest = parted xs ys (after x s) end run.1 in (rest.0, (run.0, rest.1), rest.2)

pub backs-seldom : (es : List Event) (s end : EngineState) → Follows s es end → Sound s → TurnsBackSeldom es
backs-seldom es s end run h i before between behind is none =
    let first = parted before (between ++ behind) s end (subst (λ (l : List Event). Follows s l end) is run) in
    let second = parted between behind first.0 end first.2 in
    let start = sound-along before s first.0 first.1 h in
    let few = backs-few i second.0 (sound-along between first.0 second.0 second.1 start) in
    let all = along i between first.0 second.0 second.1 start none in
    omega (arith, few, all)
