-- The obligations of a seat's event for rollbacks and attempts to stay few.
use Rattle.std.proofs.Common.{◌≡◌, ℕ, ◌+◌, ◌*◌, ◌<◌, ◌≤◌, ◌⊎◌, inl, inr, true, false, List, [], length, set, Option, Some, refl, sym, ap, ◌∙◌, subst, arith}
use Rattle.std.specs.Prelude.{option_map}
use Rattle.ame_term.specs.Tree.{Val}
use Rattle.ame_rows.specs.MemoryView.{MemoryView}
use Rattle.ame_protocol.proofs.Row.CellLemmas.{which}
use Rattle.ame_protocol.specs.declared.types.Attempt.{Attempt}
use Rattle.ame_protocol.specs.declared.types.UndoReason.{UndoReason}
use Rattle.ame_protocol.specs.declared.types.Task.{Task}
use Rattle.ame_protocol.specs.Engine.Parts.{Parts, task_at, attempt_of, member_of}
use Rattle.ame_protocol.specs.Engine.Simulates.{Simulates}
use Rattle.ame_protocol.proofs.Engine.StepLemmas.{acted, seat_within, task_here, task_else}
use Rattle.ame_protocol.specs.Bounds.Seats.{over_seats}
use Rattle.ame_protocol.specs.Bounds.Rollbacks.{rollbacks_in, rollbacks_at, MayTurnBack, HasReason, turning_back}
use Rattle.ame_protocol.specs.Bounds.Tries.{tries_of, entries_of, times, at_work}
use Rattle.ame_protocol.specs.Bounds.FewRollbacks.{HasFewRollbacks}
use Rattle.ame_protocol.proofs.Bounds.SeatLemmas.{over-one}

-- A reason stays if the seat's member may be rolled back as before, and a kept stop stays.
reason-on : (old new : Parts) (task : Task) → ((i : ℕ) → member_of task ≡ Some i → MayTurnBack i old.pool → MayTurnBack i new.pool)
    → (old.stopped ≡ true → new.stopped ≡ true) → HasReason old task → HasReason new task
reason-on old new Task.Idle kept stays h = h
reason-on old new (Task.Running attempt) kept stays h = h
reason-on old new (Task.Free attempt) kept stays h = h
reason-on old new (Task.Undoing attempt UndoReason.RolledBack) kept stays h = kept attempt.tried.number refl h
reason-on old new (Task.Undoing attempt UndoReason.Noted) kept stays h = h
reason-on old new (Task.Undoing attempt UndoReason.Stopped) kept stays h = stays h

-- The sum over seats if one seat has another task.
pub sums-step : (old new : Parts) (seat : ℕ) (was now : Task) (f : Task → ℕ) → seat < old.limits.seats → new.limits.seats ≡ old.limits.seats
    → task_at old.tasks seat ≡ was → task_at new.tasks seat ≡ now → ((k : ℕ) → (k ≡ seat → ⊥) → task_at new.tasks k ≡ task_at old.tasks k)
    → over_seats new.limits.seats (λ k. f (task_at new.tasks k)) + f was ≡ over_seats old.limits.seats (λ k. f (task_at old.tasks k)) + f now
sums-step old new seat was now f within limits had has others =
    let one = over-one old.limits.seats seat (λ k. f (task_at old.tasks k)) (λ k. f (task_at new.tasks k)) (λ k apart. ap f (others k apart)) within in
    let wide = ap (λ (n : ℕ). over_seats n (λ k. f (task_at new.tasks k))) limits in
    let o = ap f had in let n = ap f has in omega arith

-- what an event leaves and makes, with other late members
pub record FewStep (refused later : ℕ) (old new : Parts) (a : HasFewRollbacks refused old) (seat : ℕ) (was now : Task) (late : List ℕ) : Type 0 where
  pub within : seat < old.limits.seats
  pub limits : new.limits.seats ≡ old.limits.seats
  pub had : task_at old.tasks seat ≡ was
  pub has : task_at new.tasks seat ≡ now
  pub others : (k : ℕ) → (k ≡ seat → ⊥) → task_at new.tasks k ≡ task_at old.tasks k
  pub kept : (k : ℕ) → (k ≡ seat → ⊥) → (i : ℕ) → member_of (task_at old.tasks k) ≡ Some i → MayTurnBack i old.pool → MayTurnBack i new.pool
  pub stays : old.stopped ≡ true → new.stopped ≡ true
  pub reason : HasReason new now
  pub rare : later + (8 * length old.entries + (rollbacks_in old.pool.members + turning_back was))
      ≤ refused + (8 * length new.entries + (rollbacks_in new.pool.members + turning_back now))
  pub few : (i : ℕ) → tries_of i new.tried + (8 * entries_of i old.entries + (rollbacks_at i old.pool + times i a.late))
      ≤ tries_of i old.tried + (8 * entries_of i new.entries + (rollbacks_at i new.pool + times i late))
  pub calm : new.stopped ≡ false → late ≡ []
  pub once : (i : ℕ) → times i late ≤ 1
  pub own : (i : ℕ) → member_of now ≡ Some i → times i late ≡ 0
  pub away : (k : ℕ) → (k ≡ seat → ⊥) → (i : ℕ) → member_of (task_at old.tasks k) ≡ Some i → times i late ≡ 0
  pub room : length late + over_seats new.limits.seats (λ k. at_work (task_at new.tasks k)) ≤ new.limits.seats

module _ (refused later : ℕ) (old new : Parts) (a : HasFewRollbacks refused old) (seat : ℕ) (was now : Task) (late : List ℕ)
    (st : FewStep refused later old new a seat was now late) where
  reasons : (k : ℕ) → HasReason new (task_at new.tasks k)
  reasons k = by (which k seat)
    where
      by : (k ≡ seat) ⊎ ((k ≡ seat) → ⊥) → HasReason new (task_at new.tasks k)
      by (inl same) =
          subst (λ (m : ℕ). HasReason new (task_at new.tasks m)) (sym same) (subst (HasReason new) (sym st.has) st.reason)
      by (inr apart) =
          subst (HasReason new) (sym (st.others k apart)) (reason-on old new (task_at old.tasks k) (st.kept k apart) st.stays (a.reasons k))

  away : (k i : ℕ) → member_of (task_at new.tasks k) ≡ Some i → times i late ≡ 0
  away k i e = by (which k seat)
    where
      by : (k ≡ seat) ⊎ ((k ≡ seat) → ⊥) → times i late ≡ 0
      by (inl same) = st.own i (sym (ap member_of st.has) ∙ sym (ap (λ (m : ℕ). member_of (task_at new.tasks m)) same) ∙ e)
      by (inr apart) = st.away k apart i (sym (ap member_of (st.others k apart)) ∙ e)

  pub few-step : HasFewRollbacks later new
  few-step = record {
    reasons = reasons;
    rare = let t = sums-step old new seat was now turning_back st.within st.limits st.had st.has st.others in let was_rare = a.rare in let now_rare = st.rare in omega arith;
    late = late;
    tries = record {
      few = λ i. let b = a.tries.few i in let c = st.few i in omega arith;
      calm = st.calm;
      once = st.once;
      away = away;
      room = st.room;
    };
  }

-- the late members stay the same
pub record FewMore (refused later : ℕ) (old new : Parts) (a : HasFewRollbacks refused old) (seat : ℕ) (was now : Task) : Type 0 where
  pub within : seat < old.limits.seats
  pub limits : new.limits.seats ≡ old.limits.seats
  pub had : task_at old.tasks seat ≡ was
  pub has : task_at new.tasks seat ≡ now
  pub others : (k : ℕ) → (k ≡ seat → ⊥) → task_at new.tasks k ≡ task_at old.tasks k
  pub kept : (k : ℕ) → (k ≡ seat → ⊥) → (i : ℕ) → member_of (task_at old.tasks k) ≡ Some i → MayTurnBack i old.pool → MayTurnBack i new.pool
  pub stays : old.stopped ≡ true → new.stopped ≡ true
  pub going : new.stopped ≡ false → old.stopped ≡ false
  pub reason : HasReason new now
  pub rare : later + (8 * length old.entries + (rollbacks_in old.pool.members + turning_back was))
      ≤ refused + (8 * length new.entries + (rollbacks_in new.pool.members + turning_back now))
  pub few : (i : ℕ) → tries_of i new.tried + (8 * entries_of i old.entries + rollbacks_at i old.pool)
      ≤ tries_of i old.tried + (8 * entries_of i new.entries + rollbacks_at i new.pool)
  pub member : (i : ℕ) → member_of now ≡ Some i → member_of was ≡ Some i
  pub room : at_work now ≤ at_work was

pub few-more : (refused later : ℕ) (old new : Parts) (a : HasFewRollbacks refused old) (seat : ℕ) (was now : Task) → FewMore refused later old new a seat was now
    → HasFewRollbacks later new
few-more refused later old new a seat was now m =
    few-step refused later old new a seat was now a.late (record {
      within = m.within;
      limits = m.limits;
      had = m.had;
      has = m.has;
      others = m.others;
      kept = m.kept;
      stays = m.stays;
      reason = m.reason;
      rare = m.rare;
      few = λ i. let h = m.few i in omega arith;
      calm = λ going. a.tries.calm (m.going going);
      once = a.tries.once;
      own = λ i e. a.tries.away seat i (ap member_of m.had ∙ m.member i e);
      away = λ k apart i e. a.tries.away k i e;
      room =
          let t = sums-step old new seat was now at_work m.within m.limits m.had m.has m.others in
          let b = a.tries.room in let c = m.room in let d = m.limits in omega arith;
    })

-- A seat that has a member at work

module _ (parts : Parts) (s : Simulates parts) (seat : ℕ) (attempt : Attempt) (has : attempt_of (task_at parts.tasks seat) ≡ Some attempt) where
  at-seat : seat < length parts.tasks
  at-seat = seat_within parts.tasks seat attempt has

  pub within : seat < parts.limits.seats
  within = let a = at-seat in let b = s.bounded.tasks in omega arith

  pub here : (task : Task) → task_at (set parts.tasks seat task) seat ≡ task
  here task = task_here parts.tasks seat task at-seat

  -- its member is no other seat's
  pub its-own : (k i : ℕ) → (k ≡ seat → ⊥) → member_of (task_at parts.tasks k) ≡ Some i → i ≡ attempt.tried.number → ⊥
  its-own k i apart e same =
      apart (s.apart k seat i e (ap (λ (o : Option Attempt). option_map (λ (x : Attempt). x.tried.number) o) has ∙ ap Some (sym same)))

-- An event that changes the memory, the seat's task and the turns alone

module _ (refused later : ℕ) (parts : Parts) (s : Simulates parts) (a : HasFewRollbacks refused parts) (seat : ℕ) (attempt : Attempt) (was now : Task)
    (had : task_at parts.tasks seat ≡ was) (its : attempt_of was ≡ Some attempt) (reason : HasReason parts now)
    (rare : later + turning_back was ≤ refused + turning_back now) (member : (i : ℕ) → member_of now ≡ Some i → member_of was ≡ Some i)
    (room : at_work now ≤ at_work was) where
  pub acted-few : (memory : MemoryView Val) (turns : ℕ) → HasFewRollbacks later (acted memory (set parts.tasks seat now) turns parts)
  acted-few memory turns =
      let has = ap attempt_of had ∙ its in
      few-more refused later parts (acted memory (set parts.tasks seat now) turns parts) a seat was now (record {
        within = within parts s seat attempt has;
        limits = refl;
        had = had;
        has = here parts s seat attempt has now;
        others = λ k apart. task_else parts.tasks seat now k apart;
        kept = λ k apart i e h. h;
        stays = λ h. h;
        going = λ h. h;
        reason = reason;
        rare = omega arith;
        few = λ i. omega arith;
        member = member;
        room = room;
      })
