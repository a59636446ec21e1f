-- Each event keeps that some member commits between two notes of one member.
use Rattle.std.proofs.Common.{◌≡◌, ℕ, ◌+◌, ◌⊎◌, inl, inr, Bool, true, false, List, [], ◌∷◌, ◌++◌, set, Option, Some, None, IsSome, IsTrue, append_assoc, refl, sym, ap, ◌∙◌, subst}
use Rattle.std.specs.Prelude.{option_map, if◌then◌else◌}
use Rattle.ame_term.specs.Tree.{Tree}
use Rattle.ame_term.specs.Signature.{Signature}
use Rattle.ame_journal.specs.declared.entry.Entry.{Entry}
use Rattle.ame_journal.specs.declared.entry.EntryKind.{EntryKind}
use Rattle.ame_pool.specs.declared.member.Member.{Member}
use Rattle.ame_pool.specs.declared.member.MemberStanding.{MemberStanding}
use Rattle.ame_pool.specs.Members.{find, is_ready}
use Rattle.ame_pool.specs.Found.{IsFoundAfter}
use Rattle.ame_pool.specs.Roster.{Roster}
use Rattle.ame_pool.specs.Calls.{IsAt, begun, at_home, at_rest, noted_on, noted}
use Rattle.ame_pool.proofs.MemberLemmas.{found_altered}
use Rattle.ame_machine.specs.Run.Local.{LocalState}
use Rattle.ame_rows.specs.MemoryView.{row_at}
use Rattle.ame_rows.specs.LettingGo.{undone_last}
use Rattle.ame_protocol.specs.Row.Waiting.{read_places}
use Rattle.ame_protocol.proofs.Row.CellLemmas.{which}
use Rattle.ame_protocol.specs.declared.types.Limits.{Limits}
use Rattle.ame_protocol.specs.declared.types.Attempt.{Attempt}
use Rattle.ame_protocol.specs.declared.types.UndoReason.{UndoReason}
use Rattle.ame_protocol.specs.declared.types.Task.{Task}
use Rattle.ame_protocol.specs.Engine.Parts.{Parts, whole_journal, task_at}
use Rattle.ame_protocol.specs.Engine.Tasks.{is_busy_as, is_noted_for, Visits, Undoes, MeetsTask}
use Rattle.ame_protocol.specs.Engine.Simulates.{Simulates}
use Rattle.ame_protocol.specs.Engine.Events.{started, has_begun, brought_home, has_undone, has_gone_home, ran_entry, has_ended, has_left, has_stopped}
use Rattle.ame_protocol.proofs.Engine.PoolLemmas.{found-at}
use Rattle.ame_protocol.proofs.Engine.AccessLemmas.{runs}
use Rattle.ame_protocol.proofs.Engine.HomeLemmas.{gone_parts}
use Rattle.ame_protocol.proofs.Engine.StepLemmas.{acted}
use Rattle.ame_protocol.specs.Waits.Noted.{stuck_entry, has_noted}
use Rattle.ame_protocol.specs.Waits.Waiting.{watch_list, watched_by}
use Rattle.ame_protocol.specs.Waits.Once.{HasEntryAt, AreNotedOnce}
use Rattle.ame_protocol.proofs.Waits.WatchLemmas.{watched-of, running-unwatched, rest-waits}
use Rattle.ame_protocol.proofs.Waits.OnceLemmas.{once-on, once-ran, once-noted, altered-keeps}

-- Start and stop

pub start-once : (program : Tree) (signature : Signature) (limits : Limits) (room : ℕ) → AreNotedOnce (started program signature limits room)
start-once program signature limits room = record {
  recent = λ place note h. absurd (nothing EntryKind.Stuck place note h);
  once = λ first later note next below h k same. absurd (nothing EntryKind.Stuck first note h);
}
  where
    nothing : (kind : EntryKind) (place : ℕ) (x : Entry) → HasEntryAt [] kind place x → ⊥
    nothing kind place x h = let clash : ◌≡◌ {A = Option Entry} None (Some x) = h.there in cc

pub stop-once : (parts : Parts) → AreNotedOnce parts → AreNotedOnce (has_stopped parts)
stop-once parts a = once-on parts (has_stopped parts) refl (λ i some. some) a

-- Begin

ready-unwatched : (m : Member Tree) → IsTrue (is_ready m) → watch_list m.standing ≡ None
ready-unwatched m h = by m.standing h
  where
    by : (x : MemberStanding) → IsTrue (is_ready (record m { standing = x })) → watch_list x ≡ None
    by MemberStanding.Ready h = refl
    by (MemberStanding.Busy w) h = absurd (let clash : false ≡ true = h in cc)
    by (MemberStanding.Parked locs) h = absurd (let clash : false ≡ true = h in cc)

pub begin-once : (parts : Parts) (seat number : ℕ) → IsAt is_ready number parts.pool → AreNotedOnce parts → AreNotedOnce (has_begun seat number parts)
begin-once parts seat number ready a =
    let m = found-at parts.pool number is_ready ready in
    let found = found_altered number begun (λ _. refl) parts.pool.members in
    once-on parts (has_begun seat number parts) refl
    (altered-keeps number parts.pool (has_begun seat number parts).pool (ap watched-of m.1 ∙ ready-unwatched m.0 m.2) found.others) a

-- Undo, and home

pub unwatched-at : (pool : Roster Tree) (number : ℕ) → IsAt (is_busy_as false) number pool → watched_by number pool ≡ None
unwatched-at pool number busy = let m = found-at pool number (is_busy_as false) busy in ap watched-of m.1 ∙ running-unwatched m.0 m.2

home-keeps : (pool : Roster Tree) (number : ℕ) (reason : UndoReason) → IsAt (is_busy_as (is_noted_for reason)) number pool
    → (i : ℕ) → IsSome (watched_by i pool) → IsSome (watched_by i (brought_home reason number pool))
home-keeps pool number UndoReason.RolledBack busy =
    altered-keeps number pool (brought_home UndoReason.RolledBack number pool) (unwatched-at pool number busy)
    (found_altered number (at_home true) (λ _. refl) pool.members).others
home-keeps pool number UndoReason.Noted busy = λ i some. subst IsSome (sym (same i)) some
  where
    found : IsFoundAfter number (option_map at_rest) pool.members (brought_home UndoReason.Noted number pool).members
    found = found_altered number at_rest (λ _. refl) pool.members

    same : (i : ℕ) → watched_by i (brought_home UndoReason.Noted number pool) ≡ watched_by i pool
    same i = by (which i number)
      where
        by : (i ≡ number) ⊎ ((i ≡ number) → ⊥) → watched_by i (brought_home UndoReason.Noted number pool) ≡ watched_by i pool
        by (inl one) =
            subst (λ (k : ℕ). watched_by k (brought_home UndoReason.Noted number pool) ≡ watched_by k pool) (sym one)
            (ap watched-of found.here ∙ rest-waits (find number pool.members))
        by (inr apart) = ap watched-of (found.others i apart)
home-keeps pool number UndoReason.Stopped busy =
    altered-keeps number pool (brought_home UndoReason.Stopped number pool) (unwatched-at pool number busy)
    (found_altered number (at_home false) (λ _. refl) pool.members).others

module _ (parts : Parts) (a : AreNotedOnce parts) (seat : ℕ) (attempt : Attempt) (reason : UndoReason) where
  pub undone-once : AreNotedOnce (has_undone seat attempt reason parts)
  undone-once = by parts.stopped
    where
      by : (b : Bool) → AreNotedOnce (if b then acted (undone_last seat parts.memory) (set parts.tasks seat (Task.Undoing attempt reason)) parts.turns parts
          else acted (undone_last seat parts.memory) (set parts.tasks seat (Task.Undoing attempt reason)) (parts.turns + 1) parts)
      by true =
          once-on parts (acted (undone_last seat parts.memory) (set parts.tasks seat (Task.Undoing attempt reason)) parts.turns parts) refl (λ i some. some) a
      by false =
          once-on parts (acted (undone_last seat parts.memory) (set parts.tasks seat (Task.Undoing attempt reason)) (parts.turns + 1) parts) refl
          (λ i some. some) a

  gone-once : IsAt (is_busy_as (is_noted_for reason)) attempt.tried.number parts.pool → AreNotedOnce (has_gone_home seat attempt reason parts)
  gone-once busy = by parts.stopped
    where
      by : (b : Bool) → AreNotedOnce (if b then gone_parts seat attempt reason parts.turns parts else gone_parts seat attempt reason (parts.turns + 1) parts)
      by true = once-on parts (gone_parts seat attempt reason parts.turns parts) refl (home-keeps parts.pool attempt.tried.number reason busy) a
      by false = once-on parts (gone_parts seat attempt reason (parts.turns + 1) parts) refl (home-keeps parts.pool attempt.tried.number reason busy) a

module _ (parts : Parts) (s : Simulates parts) (a : AreNotedOnce parts) (seat : ℕ) (attempt : Attempt) where
  pub undoing-once : (reason : UndoReason) → task_at parts.tasks seat ≡ Task.Undoing attempt reason → AreNotedOnce (has_gone_home seat attempt reason parts)
  undoing-once reason task =
      let h : Undoes parts s.types seat attempt reason = subst (MeetsTask parts s.types seat) task (s.seats seat) in
      gone-once parts a seat attempt reason h.work.busy

  pub running-once : task_at parts.tasks seat ≡ Task.Running attempt → AreNotedOnce (has_gone_home seat attempt UndoReason.Stopped parts)
  running-once task = gone-once parts a seat attempt UndoReason.Stopped (runs parts s seat attempt task).work.busy

  pub free-once : task_at parts.tasks seat ≡ Task.Free attempt → AreNotedOnce (has_gone_home seat attempt UndoReason.Stopped parts)
  free-once task =
      let h : Visits parts s.types seat attempt = subst (MeetsTask parts s.types seat) task (s.seats seat) in
      gone-once parts a seat attempt UndoReason.Stopped h.work.busy

  -- A note
  pub note-once : (n : ℕ) (p : LocalState) → task_at parts.tasks seat ≡ Task.Running attempt → AreNotedOnce (has_noted seat attempt n p parts)
  note-once n p task =
      let number = attempt.tried.number in
      let locs = read_places (row_at parts.memory.rows seat).reads in
      let busy = (runs parts s seat attempt task).work.busy in
      let m = found-at parts.pool number (is_busy_as false) busy in
      let found = found_altered number (noted_on locs) (λ _. refl) parts.pool.members in
      let now : watched_by number (noted number locs parts.pool) ≡ Some locs = ap watched-of (found.here ∙ ap (option_map (noted_on locs)) m.1) in
      once-noted parts (has_noted seat attempt n p parts) (stuck_entry seat number n p)
      (sym (append_assoc parts.base parts.entries (stuck_entry seat number n p ∷ [])))
      (unwatched-at parts.pool number busy) (subst IsSome (sym now) refl) found.others a

-- Commits

module _ (parts : Parts) (a : AreNotedOnce parts) (seat number n : ℕ) (p : LocalState) (ls : List ℕ) where
  journal : (parts.base ++ (parts.entries ++ ran_entry seat number n p ∷ [])) ≡ whole_journal parts ++ ran_entry seat number n p ∷ []
  journal = sym (append_assoc parts.base parts.entries (ran_entry seat number n p ∷ []))

  pub ended-once : AreNotedOnce (has_ended seat number n p ls parts)
  ended-once = once-ran parts (has_ended seat number n p ls parts) (ran_entry seat number n p) journal refl a

  pub left-once : AreNotedOnce (has_left seat number n p ls parts)
  left-once = once-ran parts (has_left seat number n p ls parts) (ran_entry seat number n p) journal refl a
