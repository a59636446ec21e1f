-- Rollbacks and tries stay few: starts, begins, undos, and the way home.
use Rattle.std.proofs.Common.{◌≡◌, ℕ, ◌+◌, ◌*◌, ◌<◌, ◌≤◌, ◌==◌, ◌⊎◌, inl, inr, Bool, true, false, cond, List, [], ◌∷◌, ◌++◌, length, set, Option, Some, None, refl, sym, ap, ◌∙◌, subst, arith}
use Rattle.std.specs.Prelude.{option_map, if◌then◌else◌}
use Rattle.std.proofs.lemmas.List.{length-append}
use Rattle.std.proofs.lemmas.List.Sums.{sum_by_push}
use Rattle.std.proofs.lemmas.Bool.Decides.{nat_tests}
use Rattle.ame_pool.specs.Members.{find, altered}
use Rattle.ame_pool.specs.Calls.{begun, held, at_home, at_rest}
use Rattle.ame_pool.specs.Keeps.{is_inside_at}
use Rattle.ame_protocol.proofs.Row.CellLemmas.{which}
use Rattle.ame_rows.specs.LettingGo.{undone_last}
use Rattle.ame_protocol.specs.declared.types.Tried.{Tried}
use Rattle.ame_protocol.specs.declared.types.Attempt.{Attempt}
use Rattle.ame_protocol.specs.declared.types.UndoReason.{UndoReason}
use Rattle.ame_protocol.specs.declared.types.Task.{Task}
use Rattle.ame_protocol.specs.Engine.Parts.{Parts, task_at, attempt_of, member_of}
use Rattle.ame_protocol.specs.Engine.Simulates.{Simulates}
use Rattle.ame_protocol.specs.Engine.Events.{has_begun, fresh_attempt, begun_task, has_undone, has_gone_home, brought_home, with_try}
use Rattle.ame_protocol.proofs.Engine.StepLemmas.{acted, task_here, task_else}
use Rattle.ame_protocol.proofs.Engine.HomeLemmas.{gone_parts}
use Rattle.ame_protocol.specs.Bounds.Rollbacks.{rollbacks_at, HasReason, turning_back}
use Rattle.ame_protocol.specs.Bounds.Tries.{tries_of, entries_of, times, at_work}
use Rattle.ame_protocol.specs.Bounds.FewRollbacks.{HasFewRollbacks}
use Rattle.ame_protocol.proofs.Bounds.SeatLemmas.{over-none, over-few}
use Rattle.ame_protocol.proofs.Bounds.RollLemmas.{told_of, Rolls, altered-rolls, altered-unrolled, rolled-more}
use Rattle.ame_protocol.proofs.Bounds.FewLemmas.{few-step, few-more, sums-step, within, here, its-own, acted-few}

-- Starts

-- nothing was answered yet, and each seat is idle
pub idle-few : (parts : Parts) → parts.tried ≡ [] → ((k : ℕ) → task_at parts.tasks k ≡ Task.Idle) → HasFewRollbacks 0 parts
idle-few parts none idle = record {
  reasons = λ k. subst (HasReason parts) (sym (idle k)) tt;
  rare = omega arith;
  late = [];
  tries = record {
    few = λ i. let h : tries_of i parts.tried ≡ 0 = ap (tries_of i) none in omega arith;
    calm = λ going. refl;
    once = λ i. omega arith;
    away = λ k i e. refl;
    room = let h = over-none parts.limits.seats (λ k. at_work (task_at parts.tasks k)) (λ k. ap at_work (idle k)) in omega arith;
  };
}

-- Begins

at-most-one : (task : Task) → at_work task ≤ 1
at-most-one Task.Idle = omega arith
at-most-one (Task.Running attempt) = omega arith
at-most-one (Task.Free attempt) = omega arith
at-most-one (Task.Undoing attempt reason) = omega arith

module _ (refused : ℕ) (parts : Parts) (s : Simulates parts) (a : HasFewRollbacks refused parts) (going : parts.stopped ≡ false) (seat number : ℕ)
    (idle : task_at parts.tasks seat ≡ Task.Idle) (there : seat < parts.limits.seats) where
  abbrev attempt : Attempt
  attempt = fresh_attempt number parts

  nobody-late : (i : ℕ) → times i a.late ≡ 0
  nobody-late i = ap (times i) (a.tries.calm going)

  abbrev new : Task → Parts
  new task = record parts { pool = held number parts.pool; tasks = set parts.tasks seat task; turns = parts.turns + 1 }

  begun-as : (now : Task) → HasReason (new now) now → turning_back now ≡ 0 → HasFewRollbacks refused (new now)
  begun-as now reason none =
      let rolls = altered-unrolled number begun (λ _. refl) parts.pool.members (λ _. refl) in
      few-step refused refused parts (new now) a seat Task.Idle now a.late (record {
        within = there;
        limits = refl;
        had = idle;
        has = let b = s.bounded.tasks in task_here parts.tasks seat now (omega arith);
        others = λ k apart. task_else parts.tasks seat now k apart;
        kept = λ k apart i e h. rolls.kept i h;
        stays = λ h. h;
        reason = reason;
        rare = let y = rolls.sum in omega arith;
        few = λ i. let y = rolls.all i in omega arith;
        calm = λ same. a.tries.calm same;
        once = a.tries.once;
        own = λ i e. nobody-late i;
        away = λ k apart i e. nobody-late i;
        room =
            let h = over-few parts.limits.seats (λ k. at_work (task_at (new now).tasks k)) (λ k. at-most-one (task_at (new now).tasks k)) in
            let z : length a.late ≡ 0 = ap (λ (xs : List ℕ). length xs) (a.tries.calm going) in omega arith;
      })

  pub begin-few : HasFewRollbacks refused (has_begun seat number parts)
  begin-few = by (is_inside_at parts.pool.members number)
    where
      by : (b : Bool) → HasFewRollbacks refused (new (begun_task b attempt))
      by true = begun-as (Task.Free attempt) tt refl
      by false = begun-as (Task.Running attempt) tt refl

-- Undos

module _ (refused : ℕ) (parts : Parts) (s : Simulates parts) (a : HasFewRollbacks refused parts) (seat : ℕ) (attempt : Attempt) (was : Task)
    (had : task_at parts.tasks seat ≡ was) (its : attempt_of was ≡ Some attempt) (reason : UndoReason) where
  pub undone-few : HasReason parts (Task.Undoing attempt reason) → turning_back was ≡ turning_back (Task.Undoing attempt reason) → at_work was ≡ 1
      → member_of was ≡ Some attempt.tried.number → HasFewRollbacks refused (has_undone seat attempt reason parts)
  undone-few why same busy member = by parts.stopped
    where
      all : (turns : ℕ) → HasFewRollbacks refused (acted (undone_last seat parts.memory) (set parts.tasks seat (Task.Undoing attempt reason)) turns parts)
      all turns =
          acted-few refused refused parts s a seat attempt was (Task.Undoing attempt reason) had its why (omega arith) (λ i e. member ∙ e) (omega arith)
          (undone_last seat parts.memory) turns

      by : (b : Bool) → HasFewRollbacks refused (if b then acted (undone_last seat parts.memory) (set parts.tasks seat (Task.Undoing attempt reason)) parts.turns parts
          else acted (undone_last seat parts.memory) (set parts.tasks seat (Task.Undoing attempt reason)) (parts.turns + 1) parts)
      by true = all parts.turns
      by false = all (parts.turns + 1)

-- The way home

-- Returns one for its member if an attempt has no entry.
abbrev pub try_of : ℕ → Attempt → ℕ
try_of i attempt = cond attempt.logged 0 (cond (attempt.tried.number == i) 1 0)

pub tries-with : (i : ℕ) (attempt : Attempt) (tried : List Tried) → tries_of i (with_try attempt tried) ≡ tries_of i tried + try_of i attempt
tries-with i attempt tried = by attempt.logged
  where
    by : (b : Bool) → tries_of i (if b then tried else tried ++ attempt.tried ∷ []) ≡ tries_of i tried + cond b 0 (cond (attempt.tried.number == i) 1 0)
    by true = omega arith
    by false = sum_by_push (λ (t : Tried). cond (t.number == i) 1 0) tried attempt.tried

-- it is one at most, and none of another member
pub try-few : (i : ℕ) (attempt : Attempt) → try_of i attempt ≤ 1
try-few i attempt = grind (arith, nat_tests)

pub try-else : (i : ℕ) (attempt : Attempt) → (i ≡ attempt.tried.number → ⊥) → try_of i attempt ≡ 0
try-else i attempt apart = grind (arith, nat_tests, apart)

module _ (refused : ℕ) (parts : Parts) (s : Simulates parts) (a : HasFewRollbacks refused parts) (seat : ℕ) (attempt : Attempt) (was : Task)
    (had : task_at parts.tasks seat ≡ was) (its : attempt_of was ≡ Some attempt) where
  has : attempt_of (task_at parts.tasks seat) ≡ Some attempt
  has = ap attempt_of had ∙ its

  -- of a member that turned back: it is rolled back once more, which pays its try
  pub rolled-home : HasReason parts (Task.Undoing attempt UndoReason.RolledBack) → turning_back was ≡ 1 → (turns : ℕ)
      → HasFewRollbacks refused (gone_parts seat attempt UndoReason.RolledBack turns parts)
  rolled-home may one turns =
      let n = attempt.tried.number in
      let rolls = altered-rolls n (at_home true) (λ _. refl) parts.pool.members in
      let more = rolled-more n parts.pool.members may in
      few-more refused refused parts (gone_parts seat attempt UndoReason.RolledBack turns parts) a seat was Task.Idle (record {
        within = within parts s seat attempt has;
        limits = refl;
        had = had;
        has = here parts s seat attempt has Task.Idle;
        others = λ k apart. task_else parts.tasks seat Task.Idle k apart;
        kept = λ k apart i e h. rolls.kept i (its-own parts s seat attempt has k i apart e) h;
        stays = λ h. h;
        going = λ h. h;
        reason = tt;
        rare = let y = rolls.sum in omega arith;
        few = λ i. by i rolls more (which i n);
        member = λ i e. absurd (let clash : ◌≡◌ {A = Option ℕ} None (Some i) = e in cc);
        room = omega arith;
      })
    where
      by : (i : ℕ) → Rolls parts.pool.members (altered attempt.tried.number (at_home true) parts.pool.members) attempt.tried.number
          → told_of (find attempt.tried.number (altered attempt.tried.number (at_home true) parts.pool.members))
          ≡ told_of (find attempt.tried.number parts.pool.members) + 1 → (i ≡ attempt.tried.number) ⊎ ((i ≡ attempt.tried.number) → ⊥)
          → tries_of i (with_try attempt parts.tried) + (8 * entries_of i parts.entries + rollbacks_at i parts.pool)
          ≤ tries_of i parts.tried + (8 * entries_of i parts.entries + rollbacks_at i (brought_home UndoReason.RolledBack attempt.tried.number parts.pool))
      by i rolls more (inl same) =
          let t = tries-with i attempt parts.tried in let f = try-few i attempt in
          let o : rollbacks_at i parts.pool ≡ told_of (find attempt.tried.number parts.pool.members) = ap (λ (k : ℕ). rollbacks_at k parts.pool) same in
          let w : rollbacks_at i (brought_home UndoReason.RolledBack attempt.tried.number parts.pool)
          ≡ told_of (find attempt.tried.number (altered attempt.tried.number (at_home true) parts.pool.members)) =
          ap (λ (k : ℕ). rollbacks_at k (brought_home UndoReason.RolledBack attempt.tried.number parts.pool)) same in
          omega arith
      by i rolls more (inr apart) =
          let t = tries-with i attempt parts.tried in let f = try-else i attempt apart in let r = rolls.others i apart in omega arith

  -- A noted member goes home: its note is the entry of the attempt.
  pub noted-home : attempt.logged ≡ true → turning_back was ≡ 0 → (turns : ℕ) → HasFewRollbacks refused (gone_parts seat attempt UndoReason.Noted turns parts)
  noted-home told none turns =
      let rolls = altered-unrolled attempt.tried.number at_rest (λ _. refl) parts.pool.members (λ _. refl) in
      few-more refused refused parts (gone_parts seat attempt UndoReason.Noted turns parts) a seat was Task.Idle (record {
        within = within parts s seat attempt has;
        limits = refl;
        had = had;
        has = here parts s seat attempt has Task.Idle;
        others = λ k apart. task_else parts.tasks seat Task.Idle k apart;
        kept = λ k apart i e h. rolls.kept i h;
        stays = λ h. h;
        going = λ h. h;
        reason = tt;
        rare = let y = rolls.sum in omega arith;
        few = λ i.
            let t = tries-with i attempt parts.tried in let r = rolls.all i in
            let f : try_of i attempt ≡ 0 = ap (λ (b : Bool). cond b 0 (cond (attempt.tried.number == i) 1 0)) told in omega arith;
        member = λ i e. absurd (let clash : ◌≡◌ {A = Option ℕ} None (Some i) = e in cc);
        room = omega arith;
      })

  -- Once a stop is kept the member is late, unless an entry was added for the attempt.
  abbrev late_with : Bool → List ℕ
  late_with told = cond told a.late (a.late ++ attempt.tried.number ∷ [])

  not-late : times attempt.tried.number a.late ≡ 0
  not-late = a.tries.away seat attempt.tried.number (ap (λ (o : Option Attempt). option_map (λ (x : Attempt). x.tried.number) o) has)

  times-with : (i : ℕ) (told : Bool) → times i (late_with told) ≡ times i a.late + cond told 0 (cond (attempt.tried.number == i) 1 0)
  times-with i true = omega arith
  times-with i false = sum_by_push (λ (n : ℕ). cond (n == i) 1 0) a.late attempt.tried.number

  length-with : (told : Bool) → length (late_with told) ≤ length a.late + 1
  length-with true = omega arith
  length-with false = let h = length-append a.late (attempt.tried.number ∷ []) in omega arith

  once-with : (i : ℕ) → (i ≡ attempt.tried.number) ⊎ ((i ≡ attempt.tried.number) → ⊥) → times i (late_with attempt.logged) ≤ 1
  once-with i (inl same) =
      let t = times-with i attempt.logged in let f = try-few i attempt in
      let z : times i a.late ≡ 0 = ap (λ (k : ℕ). times k a.late) same ∙ not-late in omega arith
  once-with i (inr apart) = let t = times-with i attempt.logged in let f = try-else i attempt apart in let o = a.tries.once i in omega arith

  away-with : (k : ℕ) → (k ≡ seat → ⊥) → (i : ℕ) → member_of (task_at parts.tasks k) ≡ Some i → times i (late_with attempt.logged) ≡ 0
  away-with k apart i e =
      let t = times-with i attempt.logged in let f = try-else i attempt (its-own parts s seat attempt has k i apart e) in
      let o = a.tries.away k i e in omega arith

  pub stopped-home : parts.stopped ≡ true → turning_back was ≡ 0 → at_work was ≡ 1 → (turns : ℕ)
      → HasFewRollbacks refused (gone_parts seat attempt UndoReason.Stopped turns parts)
  stopped-home stopped none busy turns =
      let new = gone_parts seat attempt UndoReason.Stopped turns parts in
      let rolls = altered-unrolled attempt.tried.number (at_home false) (λ _. refl) parts.pool.members (λ _. refl) in
      let others = λ (k : ℕ) (apart : k ≡ seat → ⊥). task_else parts.tasks seat Task.Idle k apart in
      few-step refused refused parts new a seat was Task.Idle (late_with attempt.logged) (record {
        within = within parts s seat attempt has;
        limits = refl;
        had = had;
        has = here parts s seat attempt has Task.Idle;
        others = others;
        kept = λ k apart i e h. rolls.kept i h;
        stays = λ h. h;
        reason = tt;
        rare = let y = rolls.sum in omega arith;
        few = λ i. let t = tries-with i attempt parts.tried in let r = rolls.all i in let l = times-with i attempt.logged in omega arith;
        calm = λ going. absurd (let clash : true ≡ false = sym stopped ∙ going in cc);
        once = λ i. once-with i (which i attempt.tried.number);
        own = λ i e. absurd (let clash : ◌≡◌ {A = Option ℕ} None (Some i) = e in cc);
        away = away-with;
        room =
            let t = sums-step parts new seat was Task.Idle at_work (within parts s seat attempt has) refl had (here parts s seat attempt has Task.Idle) others in
            let b = a.tries.room in let l = length-with attempt.logged in omega arith;
      })

-- by the reason, and by whether a stop is kept

module _ (refused : ℕ) (parts : Parts) (s : Simulates parts) (a : HasFewRollbacks refused parts) (seat : ℕ) (attempt : Attempt) where
  counted-home : (reason : UndoReason) → ((turns : ℕ) → HasFewRollbacks refused (gone_parts seat attempt reason turns parts))
      → HasFewRollbacks refused (has_gone_home seat attempt reason parts)
  counted-home reason all = by parts.stopped
    where
      by : (b : Bool) → HasFewRollbacks refused (if b then gone_parts seat attempt reason parts.turns parts else gone_parts seat attempt reason (parts.turns + 1) parts)
      by true = all parts.turns
      by false = all (parts.turns + 1)

  pub undoing-home : (reason : UndoReason) → task_at parts.tasks seat ≡ Task.Undoing attempt reason → HasFewRollbacks refused (has_gone_home seat attempt reason parts)
  undoing-home reason task = counted-home reason (by reason task (subst (HasReason parts) task (a.reasons seat)))
    where
      by : (reason : UndoReason) → task_at parts.tasks seat ≡ Task.Undoing attempt reason → HasReason parts (Task.Undoing attempt reason) → (turns : ℕ)
          → HasFewRollbacks refused (gone_parts seat attempt reason turns parts)
      by UndoReason.RolledBack task why = rolled-home refused parts s a seat attempt (Task.Undoing attempt UndoReason.RolledBack) task refl why refl
      by UndoReason.Noted task why = noted-home refused parts s a seat attempt (Task.Undoing attempt UndoReason.Noted) task refl why refl
      by UndoReason.Stopped task why = stopped-home refused parts s a seat attempt (Task.Undoing attempt UndoReason.Stopped) task refl why refl refl

  pub running-home : parts.stopped ≡ true → task_at parts.tasks seat ≡ Task.Running attempt → HasFewRollbacks refused (has_gone_home seat attempt UndoReason.Stopped parts)
  running-home stopped task = counted-home UndoReason.Stopped (stopped-home refused parts s a seat attempt (Task.Running attempt) task refl stopped refl refl)

  pub free-home : parts.stopped ≡ true → task_at parts.tasks seat ≡ Task.Free attempt → HasFewRollbacks refused (has_gone_home seat attempt UndoReason.Stopped parts)
  free-home stopped task = counted-home UndoReason.Stopped (stopped-home refused parts s a seat attempt (Task.Free attempt) task refl stopped refl refl)
