-- Members that wait, under the commit of a row. The members that watch what changes are woken.
use Rattle.std.proofs.Common.{◌≡◌, ℕ, ◌+◌, ◌<◌, ◌⊎◌, inl, inr, true, false, List, [], ◌∷◌, ◌++◌, set, length, All, Contains, Option, Some, None, append_assoc, refl, sym, ap, ◌∙◌, subst}
use Rattle.std.specs.Prelude.{option_map}
use Rattle.std.specs.List.Sorted.{IsPermutation}
use Rattle.std.proofs.lemmas.List.Sorted.{Contains-permutation}
use Rattle.ame_term.specs.Tree.{Val, Tree}
use Rattle.ame_journal.specs.declared.entry.Entry.{Entry}
use Rattle.ame_pool.specs.declared.member.Member.{Member}
use Rattle.ame_pool.specs.Members.{IsRising, find}
use Rattle.ame_pool.specs.Found.{IsFoundAfter}
use Rattle.ame_pool.specs.Roster.{Roster}
use Rattle.ame_pool.specs.Calls.{removed, renewed, exchanged}
use Rattle.ame_pool.specs.Waking.{has}
use Rattle.ame_pool.proofs.MemberLemmas.{found_altered, found_except}
use Rattle.ame_store.specs.Cells.{IsOwnedBy}
use Rattle.ame_machine.specs.Run.Local.{LocalState}
use Rattle.ame_rows.specs.MemoryView.{MemoryView, row_at}
use Rattle.ame_rows.specs.Entries.{places}
use Rattle.ame_rows.specs.LettingGo.{released_all}
use Rattle.ame_protocol.specs.Row.Heap.{cell_at}
use Rattle.ame_protocol.specs.Row.SeatRun.{HasUsed, AreValid}
use Rattle.ame_protocol.specs.Row.Framed.{IsFramed}
use Rattle.ame_protocol.proofs.Row.CellLemmas.{which}
use Rattle.ame_protocol.proofs.Row.EventLemmas.{commit-framed}
use Rattle.ame_protocol.proofs.Row.ScopedLemmas.{owned-reached}
use Rattle.ame_protocol.specs.declared.types.Attempt.{Attempt}
use Rattle.ame_protocol.specs.declared.types.Task.{Task}
use Rattle.ame_protocol.specs.Engine.Logged.{heap_of}
use Rattle.ame_protocol.specs.Engine.Parts.{Parts, whole_journal, heap_in, task_at, member_of, run_in}
use Rattle.ame_protocol.specs.Engine.Tasks.{RunsProtected}
use Rattle.ame_protocol.specs.Engine.Simulates.{Simulates}
use Rattle.ame_protocol.specs.Engine.Events.{woken_for, with_newcomers, ran_entry, with_commit, has_ended, has_left}
use Rattle.ame_protocol.proofs.Engine.MemoryLemmas.{same_places, memory-undo_log}
use Rattle.ame_protocol.proofs.Engine.MemoryEvents.{release-cells, release-others}
use Rattle.ame_protocol.proofs.Engine.GrowthLemmas.{IsFreeFrom, woken-keeps, woken-free, woken-rising, newcomers-rising}
use Rattle.ame_protocol.proofs.Engine.StepLemmas.{owned_or_not, task_else}
use Rattle.ame_protocol.proofs.Engine.AccessLemmas.{runs, within}
use Rattle.ame_protocol.proofs.Engine.CommitLemmas.{free-next}
use Rattle.ame_protocol.specs.Waits.Waiting.{watched_by, last_stuck, HasFailed, AreWaiting}
use Rattle.ame_protocol.proofs.Waits.WatchLemmas.{watched-of, unwatched, woken-waits, not-woken, newcomers-wait, last-same}
use Rattle.ame_protocol.proofs.Waits.KeepLemmas.{waited}
use Rattle.ame_protocol.proofs.Waits.TaskLemmas.{not-had}

-- the locations that a seat owns are those of its undo log
pub owned-named : (parts : Parts) (seat : ℕ) (ls : List ℕ) → Simulates parts → IsPermutation (places (row_at parts.memory.rows seat).undos) ls
    → (l : ℕ) → IsOwnedBy seat (cell_at (heap_in parts) l) → Contains ls l
owned-named parts seat ls s same l own =
    let undos = (row_at parts.memory.rows seat).undos in
    Contains-permutation (places undos) ls l same
    (subst (λ (xs : List ℕ). Contains xs l) (same_places undos) ((memory-undo_log parts.memory s.consistent seat).named l own))

module _ (parts : Parts) (s : Simulates parts) (a : AreWaiting parts) (seat : ℕ) (attempt : Attempt) (task : task_at parts.tasks seat ≡ Task.Running attempt)
    (n : ℕ) (p : LocalState) (place : HasUsed (run_in parts seat attempt.tried.number) n p)
    (valid : AreValid (heap_in parts) seat (run_in parts seat attempt.tried.number).reads) (ls : List ℕ)
    (woken : (l : ℕ) → IsOwnedBy seat (cell_at (heap_in parts) l) → Contains ls l) where
  abbrev number : ℕ
  number = attempt.tried.number

  abbrev memory : MemoryView Val
  memory = released_all seat parts.memory

  abbrev woken_pool : Roster Tree
  woken_pool = woken_for ls parts.pool

  abbrev later_pool : Roster Tree
  later_pool = with_newcomers parts.next p.spawns woken_pool

  abbrev entry : Entry
  entry = ran_entry seat number n p

  its-runs : RunsProtected parts s.types seat attempt
  its-runs = runs parts s seat attempt task

  in_rows : seat < length parts.memory.rows
  in_rows = within parts s seat attempt task

  free-woken : IsFreeFrom parts.next woken_pool
  free-woken = woken-free parts.next ls parts.pool (free-next parts s)

  others-stay : (l : ℕ) → (IsOwnedBy seat (cell_at (heap_in parts) l) → ⊥) → (heap_of memory).committed l ≡ (heap_in parts).committed l
  others-stay l apart = release-others parts.memory seat l s.consistent in_rows apart

  framed : (other : ℕ) → (other ≡ seat → ⊥) → IsFramed other (heap_in parts) (heap_of memory)
  framed other apart =
      commit-framed other seat (λ e. apart (sym e)) (heap_in parts) (heap_of memory) (release-cells parts.memory seat) others-stay
      (owned-reached parts.signature s.types (heap_in parts) seat (run_in parts seat number) s.r.state n p place its-runs.owes.given valid its-runs.scoped)

  -- A value stays committed at each location whose watchers aren't woken.
  unwoken-stays : (ws : List ℕ) → All (λ l. has l ws ≡ false) ls → (l : ℕ) → Contains ws l → (heap_of memory).committed l ≡ (heap_in parts).committed l
  unwoken-stays ws none l watched = by (owned_or_not seat (cell_at (heap_in parts) l))
    where
      by : IsOwnedBy seat (cell_at (heap_in parts) l) ⊎ (IsOwnedBy seat (cell_at (heap_in parts) l) → ⊥)
          → (heap_of (released_all seat parts.memory)).committed l ≡ (heap_in parts).committed l
      by (inl own) = absurd (not-woken ls ws l none (woken l own) watched)
      by (inr apart) = others-stay l apart

  module _ (pool : Roster Tree) (mine : watched_by number pool ≡ None) (others : (k : ℕ) → (k ≡ number → ⊥)
      → find k pool.members ≡ find k later_pool.members) where
    abbrev new : Parts
    new = record (with_commit seat number n p ls parts) { pool = pool; tasks = set parts.tasks seat Task.Idle; turns = parts.turns + 1 }

    journal : whole_journal new ≡ whole_journal parts ++ entry ∷ []
    journal = sym (append_assoc parts.base parts.entries (entry ∷ []))

    commit-waiting : AreWaiting new
    commit-waiting = record { failed = λ i ws e. by i ws e (which i number) }
      where
        by : (i : ℕ) (ws : List ℕ) → watched_by i pool ≡ Some ws → (i ≡ number) ⊎ ((i ≡ number) → ⊥) → HasFailed new i ws
        by i ws e (inl same) =
            absurd (let clash : ◌≡◌ {A = Option (List ℕ)} None (Some ws) = sym mine ∙ ap (λ (k : ℕ). watched_by k pool) (sym same) ∙ e in cc)
        by i ws e (inr apart) =
            let later : watched_by i later_pool ≡ Some ws = sym (ap watched-of (others i apart)) ∙ e in
            let told : find i later_pool.members ≡ find i woken_pool.members = newcomers-wait parts.next p.spawns woken_pool free-woken i ws later in
            let x = woken-waits ls ws i parts.pool (sym (ap watched-of told) ∙ later) in
            waited parts new seat (record { framed = framed; tasks = task_else parts.tasks seat Task.Idle }) i ws (record {
              before = x.0;
              stays = record {
                machine = ap (option_map (λ (m : Member Tree). m.machine)) (others i apart ∙ told) ∙ (woken-keeps ls parts.pool i).machine;
                last = ap (last_stuck i) journal ∙ last-same i entry (whole_journal parts) refl;
                committed = unwoken-stays ws x.1;
              };
              apart = not-had parts seat number (ap member_of task) its-runs.work.busy i ws x.0;
            }) a

  pub ended-waiting : IsRising parts.pool.members → AreWaiting (has_ended seat number n p ls parts)
  ended-waiting rising =
      let found = found_except number later_pool.members (newcomers-rising parts.next p.spawns woken_pool free-woken (woken-rising ls parts.pool rising)) in
      commit-waiting (removed number later_pool) (ap watched-of found.here) found.others

  pub left-waiting : AreWaiting (has_left seat number n p ls parts)
  left-waiting =
      let found : IsFoundAfter number (option_map (renewed p.term true)) later_pool.members (exchanged number p.term true later_pool).members =
      found_altered number (renewed p.term true) (λ _. refl) later_pool.members in
      commit-waiting (exchanged number p.term true later_pool)
      (ap watched-of found.here ∙ unwatched (renewed p.term true) (λ _. refl) (find number later_pool.members)) found.others
