-- Members that wait, under visits of unprotected code and notes of other kinds.
use Rattle.std.proofs.Common.{◌≡◌, ℕ, ◌+◌, ◌<◌, ◌≤◌, ◌⊎◌, inl, inr, Bool, true, false, List, [], ◌∷◌, ◌++◌, set, Option, Some, None, is_some, IsSome, append_assoc, refl, sym, ap, ◌∙◌, subst, arith}
use Rattle.std.specs.Prelude.{ℤ, option_map}
use Rattle.std.proofs.lemmas.Bool.{cases_lt}
use Rattle.ame_term.specs.Tree.{Val, Tree}
use Rattle.ame_term.specs.declared.types.Sort.{Sort}
use Rattle.ame_journal.specs.declared.entry.Entry.{Entry}
use Rattle.ame_journal.specs.declared.entry.EntryKind.{EntryKind}
use Rattle.ame_pool.specs.declared.member.Member.{Member}
use Rattle.ame_pool.specs.Members.{find}
use Rattle.ame_pool.specs.Found.{IsFoundAfter}
use Rattle.ame_pool.specs.Roster.{Roster}
use Rattle.ame_pool.specs.Calls.{IsAt, at_home, newcomer, joined, renewed, exchanged, home}
use Rattle.ame_pool.proofs.MemberLemmas.{found_altered}
use Rattle.ame_rows.specs.MemoryView.{MemoryView}
use Rattle.ame_protocol.specs.Row.Heap.{cell_at, IsCell}
use Rattle.ame_protocol.specs.Row.Framed.{IsFramed}
use Rattle.ame_protocol.proofs.Row.CellLemmas.{which}
use Rattle.ame_protocol.specs.declared.types.Task.{Task}
use Rattle.ame_protocol.specs.Engine.Logged.{heap_of}
use Rattle.ame_protocol.specs.Engine.Parts.{Parts, whole_journal, heap_in, task_at, member_of}
use Rattle.ame_protocol.specs.Engine.Tasks.{is_busy_as}
use Rattle.ame_protocol.specs.Engine.Simulates.{Simulates}
use Rattle.ame_protocol.specs.Engine.Events.{with_newcomers}
use Rattle.ame_protocol.proofs.Engine.GrowthLemmas.{IsFreeFrom, found-new, joined-free}
use Rattle.ame_protocol.proofs.Engine.StepLemmas.{task_else}
use Rattle.ame_protocol.proofs.Engine.CommitLemmas.{free-next}
use Rattle.ame_protocol.specs.Waits.Waiting.{watched_by, is_stuck, last_stuck, HasFailed, AreWaiting}
use Rattle.ame_protocol.specs.Waits.Once.{AreNotedOnce}
use Rattle.ame_protocol.proofs.Waits.WatchLemmas.{watched-of, unwatched, newcomers-wait, last-other}
use Rattle.ame_protocol.proofs.Waits.KeepLemmas.{waited}
use Rattle.ame_protocol.proofs.Waits.TaskLemmas.{not-had, same-framed}
use Rattle.ame_protocol.proofs.Waits.CertificateLemmas.{watched-protected}
use Rattle.ame_protocol.proofs.Waits.OnceLemmas.{once-on, once-other, altered-keeps}
use Rattle.ame_protocol.proofs.Waits.OnceEvents.{unwatched-at}

-- who is there is found among new members too
newcomers-find : (next : ℕ) (bodies : List Tree) (pool : Roster Tree) → IsFreeFrom next pool → (i : ℕ) → i < next
    → find i (with_newcomers next bodies pool).members ≡ find i pool.members
newcomers-find next [] pool free i below = refl
newcomers-find next (body ∷ bodies) pool free i below =
    newcomers-find (next + 1) bodies (joined (newcomer next body false) pool) (joined-free next body pool free) i (omega arith)
    ∙ (found-new next body pool free).others i (λ same. absurd (omega arith))

-- who waits is there
waits-below : (next : ℕ) (pool : Roster Tree) → IsFreeFrom next pool → (i : ℕ) → IsSome (watched_by i pool) → i < next
waits-below next pool free i some = by (cases_lt i next)
  where
    by : (i < next) ⊎ (next ≤ i) → i < next
    by (inl below) = below
    by (inr above) = absurd (let clash : false ≡ true = sym (ap is_some (ap watched-of (free i above))) ∙ some in cc)

not-stuck : (kind : EntryKind) → is_stuck kind ≡ false → kind ≡ EntryKind.Stuck → ⊥
not-stuck kind other same = let clash : true ≡ false = sym (ap is_stuck same) ∙ other in cc

module _ (parts : Parts) (seat number : ℕ) (has : member_of (task_at parts.tasks seat) ≡ Some number) (busy : IsAt (is_busy_as false) number parts.pool)
    (entry : Entry) (other : is_stuck entry.kind ≡ false) where
  journal : (parts.base ++ (parts.entries ++ entry ∷ [])) ≡ whole_journal parts ++ entry ∷ []
  journal = sym (append_assoc parts.base parts.entries (entry ∷ []))

  -- A visit

  module _ (s : Simulates parts) (memory : MemoryView Val) (term : Tree) (inside : Bool) (spawns : List Tree) (output : List ℤ) (next turns : ℕ) where
    abbrev larger : Roster Tree
    larger = with_newcomers parts.next spawns parts.pool

    abbrev pool : Roster Tree
    pool = exchanged number term inside larger

    abbrev visited : Parts
    visited = record parts {
      memory = memory;
      entries = parts.entries ++ entry ∷ [];
      tasks = set parts.tasks seat Task.Idle;
      pool = pool;
      output = output;
      next = next;
      turns = turns;
    }

    found : IsFoundAfter number (option_map (renewed term inside)) larger.members pool.members
    found = found_altered number (renewed term inside) (λ _. refl) larger.members

    pub visit-waiting : ((k : ℕ) → (k ≡ seat → ⊥) → IsFramed k (heap_in parts) (heap_of memory))
        → ((l : ℕ) → IsCell (heap_in parts) l → (cell_at (heap_in parts) l).sort ≡ Sort.Protected → (heap_of memory).committed l ≡ (heap_in parts).committed l)
        → AreWaiting parts → AreWaiting visited
    visit-waiting framed kept a = record { failed = λ i ws e. by i ws e (which i number) }
      where
        by : (i : ℕ) (ws : List ℕ) → watched_by i pool ≡ Some ws → (i ≡ number) ⊎ ((i ≡ number) → ⊥) → HasFailed visited i ws
        by i ws e (inl same) =
            let none : watched_by i pool ≡ None =
            ap (λ (k : ℕ). watched_by k pool) same ∙ ap watched-of found.here ∙ unwatched (renewed term inside) (λ _. refl) (find number larger.members) in
            absurd (let clash : ◌≡◌ {A = Option (List ℕ)} None (Some ws) = sym none ∙ e in cc)
        by i ws e (inr apart) =
            let later : watched_by i larger ≡ Some ws = sym (ap watched-of (found.others i apart)) ∙ e in
            let told = newcomers-wait parts.next spawns parts.pool (free-next parts s) i ws later in
            let was : watched_by i parts.pool ≡ Some ws = sym (ap watched-of told) ∙ later in
            waited parts visited seat (record { framed = framed; tasks = task_else parts.tasks seat Task.Idle }) i ws (record {
              before = was;
              stays = record {
                machine = ap (option_map (λ (m : Member Tree). m.machine)) (found.others i apart ∙ told);
                last = ap (last_stuck i) journal ∙ last-other i (whole_journal parts) entry other;
                committed = λ l there. let x = watched-protected parts s a i ws was l there in kept l x.0 x.1;
              };
              apart = not-had parts seat number has busy i ws was;
            }) a

    pub visit-once : AreNotedOnce parts → AreNotedOnce visited
    visit-once a = once-other parts visited entry journal (not-stuck entry.kind other) keeps a
      where
        keeps : (i : ℕ) → IsSome (watched_by i parts.pool) → IsSome (watched_by i pool)
        keeps i some =
            altered-keeps number larger pool none found.others i
            (subst IsSome (sym (ap watched-of (there i (waits-below parts.next parts.pool (free-next parts s) i some)))) some)
          where
            there : (k : ℕ) → k < parts.next → find k (with_newcomers parts.next spawns parts.pool).members ≡ find k parts.pool.members
            there = newcomers-find parts.next spawns parts.pool (free-next parts s)

            none : watched_by number (with_newcomers parts.next spawns parts.pool) ≡ None
            none = by (watched_by number (with_newcomers parts.next spawns parts.pool)) refl
              where
                by : (o : Option (List ℕ)) → watched_by number (with_newcomers parts.next spawns parts.pool) ≡ o
                    → watched_by number (with_newcomers parts.next spawns parts.pool) ≡ None
                by None e = e
                by (Some ws) e =
                    absurd (let clash : ◌≡◌ {A = Option (List ℕ)} None (Some ws) =
                    sym (unwatched-at parts.pool number busy) ∙ sym
                    (ap watched-of (newcomers-wait parts.next spawns parts.pool (free-next parts s) number ws e)) ∙ e in cc)

  -- A note of another kind

  module _ (task : Task) (turns : ℕ) (stopped : Bool) where
    abbrev told : Parts
    told = record parts { entries = parts.entries ++ entry ∷ []; tasks = set parts.tasks seat task; turns = turns; stopped = stopped }

    pub told-waiting : AreWaiting parts → AreWaiting told
    told-waiting a = record {
      failed =
          λ i ws e.
          waited parts told seat (record { framed = λ k _. same-framed (heap_in parts) k; tasks = task_else parts.tasks seat task }) i ws (record {
            before = e;
            stays = record {
              machine = refl;
              last = ap (last_stuck i) journal ∙ last-other i (whole_journal parts) entry other;
              committed = λ l there. refl;
            };
            apart = not-had parts seat number has busy i ws e;
          }) a;
    }

    pub told-once : AreNotedOnce parts → AreNotedOnce told
    told-once a = once-other parts told entry journal (not-stuck entry.kind other) (λ i some. some) a

-- A visit that a device refused

module _ (parts : Parts) (seat number : ℕ) (has : member_of (task_at parts.tasks seat) ≡ Some number) (busy : IsAt (is_busy_as false) number parts.pool)
    (turns : ℕ) (stopped : Bool) where
  abbrev home_pool : Roster Tree
  home_pool = home number false parts.pool

  abbrev refused : Parts
  refused = record parts { tasks = set parts.tasks seat Task.Idle; pool = home_pool; turns = turns; stopped = stopped }

  found_home : IsFoundAfter number (option_map (at_home false)) parts.pool.members home_pool.members
  found_home = found_altered number (at_home false) (λ _. refl) parts.pool.members

  pub refused-waiting : AreWaiting parts → AreWaiting refused
  refused-waiting a = record { failed = λ i ws e. by i ws e (which i number) }
    where
      by : (i : ℕ) (ws : List ℕ) → watched_by i home_pool ≡ Some ws → (i ≡ number) ⊎ ((i ≡ number) → ⊥) → HasFailed refused i ws
      by i ws e (inl same) =
          let none : watched_by i home_pool ≡ None =
          ap (λ (k : ℕ). watched_by k home_pool) same ∙ ap watched-of found_home.here ∙ unwatched (at_home false) (λ _. refl)
          (find number parts.pool.members) in
          absurd (let clash : ◌≡◌ {A = Option (List ℕ)} None (Some ws) = sym none ∙ e in cc)
      by i ws e (inr apart) =
          let told = found_home.others i apart in
          let was : watched_by i parts.pool ≡ Some ws = sym (ap watched-of told) ∙ e in
          waited parts refused seat (record { framed = λ k _. same-framed (heap_in parts) k; tasks = task_else parts.tasks seat Task.Idle }) i ws (record {
            before = was;
            stays = record { machine = ap (option_map (λ (m : Member Tree). m.machine)) told; last = refl; committed = λ l there. refl };
            apart = not-had parts seat number has busy i ws was;
          }) a

  pub refused-once : AreNotedOnce parts → AreNotedOnce refused
  refused-once a = once-on parts refused refl (altered-keeps number parts.pool home_pool (unwatched-at parts.pool number busy) found_home.others) a
