-- An engine stands after a visit.
use Rattle.std.proofs.Common.{◌≡◌, ℕ, ◌+◌, ◌<◌, ◌≤◌, ◌⊎◌, inl, inr, Bool, false, List, [], ◌∷◌, ◌++◌, set, length, Option, Some, None, length-set, append_assoc, refl, sym, ap, ◌∙◌, subst, arith}
use Rattle.std.specs.Prelude.{ℤ, option_map, option_and_then, unwrap_or}
use Rattle.std.proofs.lemmas.Bool.{cases_lt}
use Rattle.ame_term.specs.Tree.{Val, Tree}
use Rattle.ame_term.specs.Maps.{at}
use Rattle.ame_journal.specs.declared.entry.Entry.{Entry}
use Rattle.ame_journal.specs.Replayed.{Replayed, begun_at, is_inside}
use Rattle.ame_journal.specs.Replay.{or_else, replay, replay_entry}
use Rattle.ame_journal.proofs.ReplayLemmas.{replay_from-one}
use Rattle.ame_journal.proofs.ReachedLemmas.{calm-replayed}
use Rattle.ame_laws.specs.Typed.TypedState.{IsMember}
use Rattle.ame_laws.proofs.Typed.Preserved.{grown}
use Rattle.ame_pool.specs.declared.member.Member.{Member}
use Rattle.ame_pool.specs.Members.{find}
use Rattle.ame_pool.specs.Found.{IsFoundAfter}
use Rattle.ame_pool.specs.Roster.{Roster}
use Rattle.ame_pool.specs.Calls.{machine_of, renewed, exchanged}
use Rattle.ame_pool.specs.Keeps.{is_inside_at}
use Rattle.ame_pool.proofs.MemberLemmas.{found_altered}
use Rattle.ame_machine.specs.Run.Local.{LocalState}
use Rattle.ame_machine.specs.Run.AgreesWith.{with_members}
use Rattle.ame_rows.specs.MemoryView.{MemoryView, Log, no_log, row_at}
use Rattle.ame_protocol.specs.Row.Heap.{ShowsStore}
use Rattle.ame_protocol.specs.Row.Scoped.{live_types, IsTypedNow}
use Rattle.ame_protocol.proofs.Row.CellLemmas.{which}
use Rattle.ame_protocol.proofs.Row.CommitLemmas.{typed-run}
use Rattle.ame_protocol.specs.declared.types.Attempt.{Attempt}
use Rattle.ame_protocol.specs.declared.types.Task.{Task}
use Rattle.ame_protocol.specs.Engine.Logged.{heap_of}
use Rattle.ame_protocol.specs.Engine.Parts.{Parts, whole_journal, heap_in, task_at, attempt_of, member_of}
use Rattle.ame_protocol.specs.Engine.Tasks.{is_busy_as, MeetsTask}
use Rattle.ame_protocol.specs.Engine.Simulates.{Simulates}
use Rattle.ame_protocol.specs.Engine.Events.{with_newcomers}
use Rattle.ame_protocol.proofs.Engine.CarryLemmas.{GoesOn, StaysBusy, tries-on}
use Rattle.ame_protocol.proofs.Engine.PoolLemmas.{found-at, inside-told}
use Rattle.ame_protocol.proofs.Engine.GrowthLemmas.{keeps-on, keeps-same, IsFreeFrom, newcomers-keep, newcomers-told, newcomers-inside}
use Rattle.ame_protocol.proofs.Engine.StepLemmas.{step, seat_within, task_here, task_else}
use Rattle.ame_protocol.proofs.Engine.HomeLemmas.{busy-of}
use Rattle.ame_protocol.proofs.Engine.CommitLemmas.{free-next}
use Rattle.ame_protocol.specs.Visits.Visit.{free_entry, has_visited}
use Rattle.ame_protocol.proofs.Visits.PlaceLemmas.{visits}
use Rattle.ame_protocol.proofs.Visits.SettleLemmas.{live-grows}
use Rattle.ame_protocol.proofs.Visits.VisitLemmas.{Visited}

-- who is busy is below the next number
pub below-next : (parts : Parts) (s : Simulates parts) (other i : ℕ) → member_of (task_at parts.tasks other) ≡ Some i → i < parts.next
below-next parts s other i has =
    let b = busy-of parts s.types other i (task_at parts.tasks other) (s.seats other) has in
    let x = found-at parts.pool i (is_busy_as b.0) b.1 in by (cases_lt i parts.next) x.0 x.1
  where
    by : (i < parts.next) ⊎ (parts.next ≤ i) → (m : Member Tree) → find i parts.pool.members ≡ Some m → i < parts.next
    by (inl below) m found = below
    by (inr above) m found = absurd (let clash : ◌≡◌ {A = Option (Member Tree)} None (Some m) = sym (free-next parts s i above) ∙ found in cc)

-- A seat that has a member at work becomes idle

module _ (parts : Parts) (s : Simulates parts) (seat : ℕ) (attempt : Attempt) (has : attempt_of (task_at parts.tasks seat) ≡ Some attempt) where
  abbrev pub idle_tasks : List Task
  idle_tasks = set parts.tasks seat Task.Idle

  pub idle-here : task_at idle_tasks seat ≡ Task.Idle
  idle-here = task_here parts.tasks seat Task.Idle (seat_within parts.tasks seat attempt has)

  -- the seat's member is no other seat's
  pub its-own : (other i : ℕ) → (other ≡ seat → ⊥) → member_of (task_at parts.tasks other) ≡ Some i → i ≡ attempt.tried.number → ⊥
  its-own other i apart e same =
      apart (s.apart other seat i e (ap (option_map (λ (a : Attempt). a.tried.number)) has ∙ ap Some (sym same)))

  -- who is at work afterwards was so before
  pub was-there : (k i : ℕ) → member_of (task_at idle_tasks k) ≡ Some i → member_of (task_at parts.tasks k) ≡ Some i
  was-there k i e = by (which k seat)
    where
      by : (k ≡ seat) ⊎ ((k ≡ seat) → ⊥) → member_of (task_at parts.tasks k) ≡ Some i
      by (inl same) =
          let none : member_of (task_at idle_tasks k) ≡ None = ap (λ (m : ℕ). member_of (task_at idle_tasks m)) same ∙ ap member_of idle-here in
          absurd (let clash : ◌≡◌ {A = Option ℕ} None (Some i) = sym none ∙ e in cc)
      by (inr apart) = sym (ap member_of (task_else parts.tasks seat Task.Idle k apart)) ∙ e

module _ (parts : Parts) (s : Simulates parts) (seat : ℕ) (attempt : Attempt) (task : task_at parts.tasks seat ≡ Task.Free attempt) (n : ℕ)
    (q : LocalState) (inside : Bool) (memory : MemoryView Val) (v : Visited parts s seat attempt.tried.number n q inside memory) where
  abbrev number : ℕ
  number = attempt.tried.number

  abbrev entry : Entry
  entry = free_entry seat number n q

  abbrev larger_pool : Roster Tree
  larger_pool = with_newcomers parts.next q.spawns parts.pool

  abbrev pool : Roster Tree
  pool = exchanged number q.term inside larger_pool

  abbrev turns : ℕ
  turns = parts.turns + 1

  abbrev new : Parts
  new = has_visited seat number n q inside memory parts

  has : attempt_of (task_at parts.tasks seat) ≡ Some attempt
  has = ap attempt_of task

  free : IsFreeFrom parts.next parts.pool
  free = free-next parts s

  pub visit-found : IsFoundAfter number (option_map (renewed q.term inside)) larger_pool.members pool.members
  visit-found = found_altered number (renewed q.term inside) (λ _. refl) larger_pool.members

  -- the member stays in the larger pool
  later-member : (m : Member Tree) × (find number larger_pool.members ≡ Some m)
  later-member =
      let k = newcomers-keep parts.next q.spawns parts.pool free number (below-next parts s seat number (ap member_of task)) in
      let x = found-at larger_pool number (is_busy_as false) (k.busy false (visits parts s seat attempt task).work.busy) in (x.0, x.1)

  now-here : find number pool.members ≡ Some (renewed q.term inside later-member.0)
  now-here = visit-found.here ∙ ap (option_map (renewed q.term inside)) later-member.1

  journal : whole_journal new ≡ whole_journal parts ++ entry ∷ []
  journal = sym (append_assoc parts.base parts.entries (entry ∷ []))

  pub goes : GoesOn parts new
  goes = record { program = refl; signature = refl; limits = refl; more = entry ∷ []; journal = journal; turns = omega arith }

  replayed : replay parts.program (whole_journal new) ≡ Some v.r
  replayed =
      ap (replay parts.program) journal ∙ replay_from-one (begun_at parts.program) (whole_journal parts) entry
      ∙ ap (option_and_then (λ (r : Replayed). replay_entry r entry)) s.stands.replayed ∙ v.entry

  store : ShowsStore (heap_of memory) v.r.state.store
  store l = v.settles.shows l ∙ ap (or_else (at q.sets l)) (s.stands.store l) ∙ sym (v.after.stored l)

  members : (k : ℕ) → at v.r.state.members k ≡ machine_of k pool
  members k = by (which k number)
    where
      by : (k ≡ number) ⊎ ((k ≡ number) → ⊥) → at v.r.state.members k ≡ machine_of k pool
      by (inl same) =
          subst (λ (m : ℕ). at v.r.state.members m ≡ machine_of m pool) (sym same)
          (v.member ∙ sym (ap (option_map (λ (m : Member Tree). m.machine)) now-here))
      by (inr apart) =
          v.after.others k apart ∙ ap (λ (x : ℕ). at (with_members s.r.state.members x q.spawns) k) s.stands.next
          ∙ newcomers-told parts.next q.spawns s.r.state.members parts.pool free s.stands.members k
          ∙ sym (ap (option_map (λ (m : Member Tree). m.machine)) (visit-found.others k apart))

  abbrev inside-told-of : Option (Member Tree) → Bool
  inside-told-of o = unwrap_or (option_map (λ (m : Member Tree). m.inside) o) false

  insides : (k : ℕ) → is_inside v.r k ≡ is_inside_at pool.members k
  insides k = by (which k number)
    where
      by : (k ≡ number) ⊎ ((k ≡ number) → ⊥) → is_inside v.r k ≡ is_inside_at pool.members k
      by (inl same) =
          subst (λ (m : ℕ). is_inside v.r m ≡ is_inside_at pool.members m) (sym same)
          (v.inside_here ∙ sym (inside-told pool.members number ∙ ap inside-told-of now-here))
      by (inr apart) =
          v.inside_others k apart ∙ s.stands.inside k ∙ sym (newcomers-inside parts.next q.spawns parts.pool free k)
          ∙ sym (inside-told pool.members k ∙ ap inside-told-of (visit-found.others k apart) ∙ sym (inside-told larger_pool.members k))

  -- every other seat has its member as before
  kept : (other i : ℕ) → (other ≡ seat → ⊥) → member_of (task_at parts.tasks other) ≡ Some i → StaysBusy parts new i
  kept other i apart e =
      let k =
      keeps-on parts.pool larger_pool pool i (newcomers-keep parts.next q.spawns parts.pool free i (below-next parts s other i e))
      (keeps-same larger_pool pool i (visit-found.others i (its-own parts s seat attempt has other i apart e))) in
      record { machine = k.machine; inside = k.inside; busy = k.busy }

  now-typed : IsTypedNow parts.signature v.types (heap_of memory) v.r.state
  now-typed =
      let cells = live_types (heap_of memory) v.types in
      typed-run parts.signature cells s.r.state v.r.state number q
      (grown parts.signature (live_types (heap_in parts) s.types) cells s.r.state (live-grows parts s memory q.sets v.types v.settles) s.typed.now)
      v.place v.after
      (λ term found. let both : ◌≡◌ {A = Option Tree} (Some q.term) (Some term) = sym v.member ∙ found in
      let same : q.term ≡ term = cc in subst (IsMember parts.signature cells) same v.place.fragment)
      (calm-replayed parts.program (whole_journal new) v.r replayed).orderly.members_rise v.idle

  clear : row_at memory.rows seat ≡ no_log
  clear = ap (λ (rows : List (Log Val)). row_at rows seat) v.settles.rows ∙ (visits parts s seat attempt task).clear

  pub visit-stands : parts.turns < parts.limits.turns → Simulates new
  visit-stands left =
      step parts new s seat (record {
        r = v.r;
        types = v.types;
        on = goes;
        grows = v.settles.grows;
        stands = record {
          replayed = replayed;
          store = store;
          members = members;
          inside = insides;
          output = v.after.output ∙ ap (λ (xs : List ℤ). xs ++ q.prints) s.stands.output;
          next = v.after.next ∙ ap (λ (x : ℕ). x + length q.spawns) s.stands.next;
        };
        typed = record { heap = v.settles.heap; now = now-typed; shared = v.settles.shared };
        consistent = v.settles.consistent;
        framed = λ other apart. v.settles.framed other;
        rows = λ other apart. ap (λ (rows : List (Log Val)). row_at rows other) v.settles.rows;
        tasks = task_else parts.tasks seat Task.Idle;
        busy = λ other apart i e. kept other i apart e;
        own = subst (MeetsTask new v.types seat) (sym (idle-here parts s seat attempt has)) clear;
        apart = λ k other i e f. s.apart k other i (was-there parts s seat attempt has k i e) (was-there parts s seat attempt has other i f);
        bounded = record {
          turns = omega arith;
          numbers = v.settles.numbers;
          cells = v.settles.cells;
          rows = ap (λ (rows : List (Log Val)). length rows) v.settles.rows ∙ s.bounded.rows;
          tasks = length-set parts.tasks seat Task.Idle ∙ s.bounded.tasks;
        };
        sound = tries-on parts new goes parts.tried s.sound;
      })
