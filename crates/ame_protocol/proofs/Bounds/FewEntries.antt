-- Rollbacks and tries stay few: entries, and what follows.
use Rattle.std.proofs.Common.{◌≡◌, ℕ, ◌+◌, ◌*◌, ◌≤◌, ◌==◌, ◌⊎◌, inl, inr, Bool, true, false, cond, List, [], ◌∷◌, ◌++◌, length, set, Option, Some, None, refl, sym, ap, ◌∙◌, arith}
use Rattle.std.specs.Prelude.{ℤ}
use Rattle.std.proofs.lemmas.List.{length-append}
use Rattle.std.proofs.lemmas.List.Sums.{sum_by_push}
use Rattle.std.proofs.lemmas.Bool.Decides.{nat_tests}
use Rattle.ame_term.specs.Tree.{Val, Tree}
use Rattle.ame_term.specs.Frame.{Side}
use Rattle.ame_journal.specs.declared.entry.Entry.{Entry}
use Rattle.ame_pool.specs.declared.member.Member.{Member}
use Rattle.ame_pool.specs.Members.{IsRising, find}
use Rattle.ame_pool.specs.Roster.{Roster}
use Rattle.ame_pool.specs.Standings.{max_rollbacks}
use Rattle.ame_pool.specs.Calls.{removed, exchanged, renewed, noted, noted_on, at_home}
use Rattle.ame_pool.proofs.MemberLemmas.{find_passes}
use Rattle.ame_machine.specs.Run.Local.{LocalState}
use Rattle.ame_rows.specs.MemoryView.{MemoryView, row_at}
use Rattle.ame_protocol.specs.Row.Waiting.{read_places}
use Rattle.ame_protocol.proofs.Row.CellLemmas.{which}
use Rattle.ame_protocol.specs.declared.types.Attempt.{Attempt}
use Rattle.ame_protocol.specs.declared.types.UndoReason.{UndoReason}
use Rattle.ame_protocol.specs.declared.types.Task.{Task}
use Rattle.ame_protocol.specs.Engine.Parts.{Parts, task_at, attempt_of, member_of}
use Rattle.ame_protocol.specs.Engine.Simulates.{Simulates}
use Rattle.ame_protocol.specs.Engine.Events.{ran_entry, woken_for, with_newcomers, has_ended, has_left}
use Rattle.ame_protocol.proofs.Engine.StepLemmas.{task_else}
use Rattle.ame_protocol.proofs.Engine.GrowthLemmas.{IsFreeFrom, woken-free, woken-rising, newcomers-rising}
use Rattle.ame_protocol.proofs.Engine.CommitLemmas.{free-next}
use Rattle.ame_protocol.specs.Waits.Noted.{stuck_entry, has_noted}
use Rattle.ame_protocol.specs.Visits.Visit.{free_entry, has_visited, has_been_refused}
use Rattle.ame_protocol.specs.Visits.Stops.{MayBeNoted, told_attempt, told_task}
use Rattle.ame_protocol.specs.Bounds.Rollbacks.{rollbacks_at, IsWithinRollbacks, HasReason, turning_back}
use Rattle.ame_protocol.specs.Bounds.Tries.{entries_of, at_work}
use Rattle.ame_protocol.specs.Bounds.FewRollbacks.{HasFewRollbacks}
use Rattle.ame_protocol.proofs.Bounds.RollLemmas.{told_of, Rolls, Unrolled, unrolled-on, then-rolls, altered-rolls, altered-unrolled, except-rolls, except-none, all-woken-unrolled, newcomers-unrolled, none-rolled}
use Rattle.ame_protocol.proofs.Bounds.FewLemmas.{few-more, within, here, its-own}

pub told-few : (n : ℕ) (pool : Roster Tree) → IsWithinRollbacks pool → told_of (find n pool.members) ≤ 8
told-few n pool few = by (find n pool.members) refl
  where
    by : (o : Option (Member Tree)) → find n pool.members ≡ o → told_of o ≤ 8
    by None e = omega arith
    by (Some m) e = find_passes (λ x. x.rollbacks ≤ max_rollbacks) n pool.members few m e

length-push : (entries : List Entry) (e : Entry) → length (entries ++ e ∷ []) ≡ length entries + 1
length-push entries e = length-append entries (e ∷ []) ∙ omega arith

-- an entry is one of its member, and none of another one
entries-push : (i : ℕ) (entries : List Entry) (e : Entry) → entries_of i (entries ++ e ∷ []) ≡ entries_of i entries + cond (e.number == i) 1 0
entries-push i entries e = sum_by_push (λ (x : Entry). cond (x.number == i) 1 0) entries e

one-here : (n i : ℕ) → n ≡ i → ◌≡◌ {A = ℕ} (cond (n == i) 1 0) 1
one-here n i same = grind (arith, nat_tests, same)

-- An entry of a seat's member: its rollbacks are none then, and the row is idle, or is noted

module _ (refused : ℕ) (parts : Parts) (s : Simulates parts) (a : HasFewRollbacks refused parts) (few : IsWithinRollbacks parts.pool) (seat : ℕ) (attempt : Attempt)
    (was now : Task) (had : task_at parts.tasks seat ≡ was) (its : attempt_of was ≡ Some attempt) (entry : Entry)
    (number : entry.number ≡ attempt.tried.number) (pool : Roster Tree) (rolls : Rolls parts.pool.members pool.members attempt.tried.number)
    (none : told_of (find attempt.tried.number pool.members) ≡ 0) where
  abbrev n : ℕ
  n = attempt.tried.number

  abbrev entries : List Entry
  entries = parts.entries ++ entry ∷ []

  few-at : (i : ℕ) → (i ≡ n) ⊎ ((i ≡ n) → ⊥) → 8 * entries_of i parts.entries + rollbacks_at i parts.pool ≤ 8 * entries_of i entries + rollbacks_at i pool
  few-at i (inl same) =
      let e = entries-push i parts.entries entry in let o = one-here entry.number i (number ∙ sym same) in
      let r : rollbacks_at i parts.pool ≤ 8 = told-few i parts.pool few in omega arith
  few-at i (inr apart) = let e = entries-push i parts.entries entry in let r = rolls.others i apart in omega arith

  pub entry-few : turning_back was ≡ 0 → turning_back now ≡ 0 → ((i : ℕ) → member_of now ≡ Some i → member_of was ≡ Some i)
      → at_work now ≤ at_work was → HasReason (record parts { pool = pool }) now → (memory : MemoryView Val) (output : List ℤ) (next turns : ℕ)
      → HasFewRollbacks refused (record parts {
        memory = memory;
        pool = pool;
        output = output;
        entries = entries;
        next = next;
        tasks = set parts.tasks seat now;
        turns = turns;
      })
  entry-few was_none now_none member room why memory output next turns =
      let has = ap attempt_of had ∙ its in
      let new : Parts = record parts {
        memory = memory;
        pool = pool;
        output = output;
        entries = entries;
        next = next;
        tasks = set parts.tasks seat now;
        turns = turns;
      } in
      few-more refused refused parts new a seat was now (record {
        within = within parts s seat attempt has;
        limits = refl;
        had = had;
        has = here parts s seat attempt has now;
        others = λ k apart. task_else parts.tasks seat now k apart;
        kept = λ k apart i e h. rolls.kept i (its-own parts s seat attempt has k i apart e) h;
        stays = λ h. h;
        going = λ h. h;
        reason = why;
        rare =
            let y = rolls.sum in let l = length-push parts.entries entry in
            let r : told_of (find n parts.pool.members) ≤ 8 = told-few n parts.pool few in omega arith;
        few = λ i. let h = few-at i (which i n) in omega arith;
        member = member;
        room = room;
      })

-- Commits and visits

no-one : (i : ℕ) → member_of Task.Idle ≡ Some i → ⊥
no-one i e = let clash : ◌≡◌ {A = Option ℕ} None (Some i) = e in cc

module _ (refused : ℕ) (parts : Parts) (s : Simulates parts) (a : HasFewRollbacks refused parts) (few : IsWithinRollbacks parts.pool) (seat : ℕ) (attempt : Attempt)
    (n : ℕ) (p : LocalState) where
  abbrev number : ℕ
  number = attempt.tried.number

  module _ (ls : List ℕ) (task : task_at parts.tasks seat ≡ Task.Running attempt) where
    abbrev later_pool : Roster Tree
    later_pool = with_newcomers parts.next p.spawns (woken_for ls parts.pool)

    free-woken : IsFreeFrom parts.next (woken_for ls parts.pool)
    free-woken = woken-free parts.next ls parts.pool (free-next parts s)

    unrolled : Unrolled parts.pool.members later_pool.members
    unrolled =
        unrolled-on parts.pool.members (woken_for ls parts.pool).members later_pool.members (all-woken-unrolled ls parts.pool)
        (newcomers-unrolled parts.next p.spawns (woken_for ls parts.pool) free-woken)

    pub ended-few : IsRising parts.pool.members → HasFewRollbacks refused (has_ended seat number n p ls parts)
    ended-few rising =
        let rises = newcomers-rising parts.next p.spawns (woken_for ls parts.pool) free-woken (woken-rising ls parts.pool rising) in
        let pool = removed number later_pool in
        let new = has_ended seat number n p ls parts in
        entry-few refused parts s a few seat attempt (Task.Running attempt) Task.Idle task refl (ran_entry seat number n p) refl pool
        (then-rolls parts.pool.members later_pool.members pool.members number unrolled (except-rolls number later_pool.members rises))
        (except-none number later_pool.members rises) refl refl (λ i e. absurd (no-one i e)) (omega arith) tt new.memory new.output new.next new.turns

    pub left-few : HasFewRollbacks refused (has_left seat number n p ls parts)
    left-few =
        let pool = exchanged number p.term true later_pool in
        let new = has_left seat number n p ls parts in
        entry-few refused parts s a few seat attempt (Task.Running attempt) Task.Idle task refl (ran_entry seat number n p) refl pool
        (then-rolls parts.pool.members later_pool.members pool.members number unrolled (altered-rolls number (renewed p.term true) (λ _. refl) later_pool.members))
        (none-rolled number (renewed p.term true) (λ _. refl) (λ _. refl) later_pool.members) refl refl (λ i e. absurd (no-one i e)) (omega arith) tt
        new.memory new.output new.next new.turns

  pub visited-few : (inside : Bool) (memory : MemoryView Val) → task_at parts.tasks seat ≡ Task.Free attempt
      → HasFewRollbacks refused (has_visited seat number n p inside memory parts)
  visited-few inside memory task =
      let grown = with_newcomers parts.next p.spawns parts.pool in
      let pool = exchanged number p.term inside grown in
      let new = has_visited seat number n p inside memory parts in
      entry-few refused parts s a few seat attempt (Task.Free attempt) Task.Idle task refl (free_entry seat number n p) refl pool
      (then-rolls parts.pool.members grown.members pool.members number (newcomers-unrolled parts.next p.spawns parts.pool (free-next parts s))
      (altered-rolls number (renewed p.term inside) (λ _. refl) grown.members))
      (none-rolled number (renewed p.term inside) (λ _. refl) (λ _. refl) grown.members) refl refl (λ i e. absurd (no-one i e)) (omega arith) tt
      memory new.output new.next new.turns

  -- Notes
  pub noted-few : task_at parts.tasks seat ≡ Task.Running attempt → HasFewRollbacks refused (has_noted seat attempt n p parts)
  noted-few task =
      let locs = read_places (row_at parts.memory.rows seat).reads in
      let pool = noted number locs parts.pool in
      entry-few refused parts s a few seat attempt (Task.Running attempt) (Task.Undoing (record attempt { logged = true }) UndoReason.Noted) task refl
      (stuck_entry seat number n p) refl pool (altered-rolls number (noted_on locs) (λ _. refl) parts.pool.members)
      (none-rolled number (noted_on locs) (λ _. refl) (λ _. refl) parts.pool.members) refl refl (λ i e. e) (omega arith) refl parts.memory parts.output
      parts.next (parts.turns + 1)

-- A note once a stop is kept

module _ (refused : ℕ) (parts : Parts) (s : Simulates parts) (a : HasFewRollbacks refused parts) (seat : ℕ) (entry : Entry) where
  told-few-as : (was now : Task) (attempt : Attempt) → task_at parts.tasks seat ≡ was → attempt_of was ≡ Some attempt → turning_back was ≡ 0
      → turning_back now ≡ 0 → member_of now ≡ member_of was → at_work now ≤ at_work was → ((new : Parts) → HasReason new now) → (turns : ℕ)
      → HasFewRollbacks refused (record parts { entries = parts.entries ++ entry ∷ []; tasks = set parts.tasks seat now; turns = turns; stopped = true })
  told-few-as was now attempt had its was_none now_none member room why turns =
      let has = ap attempt_of had ∙ its in
      let new : Parts = record parts { entries = parts.entries ++ entry ∷ []; tasks = set parts.tasks seat now; turns = turns; stopped = true } in
      few-more refused refused parts new a seat was now (record {
        within = within parts s seat attempt has;
        limits = refl;
        had = had;
        has = here parts s seat attempt has now;
        others = λ k apart. task_else parts.tasks seat now k apart;
        kept = λ k apart i e h. h;
        stays = λ h. refl;
        going = λ h. absurd (let clash : true ≡ false = h in cc);
        reason = why new;
        rare = let l = length-push parts.entries entry in omega arith;
        few = λ i. let e = entries-push i parts.entries entry in omega arith;
        member = λ i e. sym member ∙ e;
        room = room;
      })

  pub told-task-few : (task : Task) (side : Side) (number n : ℕ) (p : LocalState) (turns : ℕ) → task_at parts.tasks seat ≡ task
      → MayBeNoted parts seat task side number n p
      → HasFewRollbacks refused (record parts { entries = parts.entries ++ entry ∷ []; tasks = set parts.tasks seat (told_task task); turns = turns; stopped = true })
  told-task-few _ _ _ _ _ turns had (MayBeNoted.running attempt n p used valid) =
      told-few-as (Task.Running attempt) (Task.Running (told_attempt attempt)) attempt had refl refl refl refl (omega arith) (λ new. tt) turns
  told-task-few _ _ _ _ _ turns had (MayBeNoted.free attempt n p steps) =
      told-few-as (Task.Free attempt) (Task.Free (told_attempt attempt)) attempt had refl refl refl refl (omega arith) (λ new. tt) turns

-- A device refused a visit

pub refused-few : (refused : ℕ) (parts : Parts) → Simulates parts → HasFewRollbacks refused parts → (seat : ℕ) (attempt : Attempt)
    → task_at parts.tasks seat ≡ Task.Free attempt → HasFewRollbacks refused (has_been_refused seat attempt.tried.number parts)
refused-few refused parts s a seat attempt task =
    let has = ap attempt_of task in
    let rolls = altered-unrolled attempt.tried.number (at_home false) (λ _. refl) parts.pool.members (λ _. refl) in
    few-more refused refused parts (has_been_refused seat attempt.tried.number parts) a seat (Task.Free attempt) Task.Idle (record {
      within = within parts s seat attempt has;
      limits = refl;
      had = task;
      has = here parts s seat attempt has Task.Idle;
      others = λ k apart. task_else parts.tasks seat Task.Idle k apart;
      kept = λ k apart i e h. rolls.kept i h;
      stays = λ h. refl;
      going = λ h. absurd (let clash : true ≡ false = h in cc);
      reason = tt;
      rare = let y = rolls.sum in omega arith;
      few = λ i. let y = rolls.all i in omega arith;
      member = λ i e. absurd (no-one i e);
      room = omega arith;
    })
