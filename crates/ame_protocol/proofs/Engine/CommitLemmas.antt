-- The commit of a row: its member has ended, or has come to `unprotected`.
use Rattle.std.proofs.Common.{◌≡◌, ℕ, zero, suc, ◌+◌, ◌*◌, ◌<◌, ◌≤◌, ◌||◌, ◌⊎◌, inl, inr, Bool, true, false, List, [], ◌∷◌, ◌++◌, set, length, Option, Some, None, length-set, append_assoc, refl, sym, ap, ◌∙◌, subst, arith}
use Rattle.std.specs.Prelude.{ℤ, option_map, option_and_then, is_some, unwrap_or, if◌then◌else◌}
use Rattle.std.proofs.lemmas.List.{append-nil}
use Rattle.std.specs.Option.{ForSome}
use Rattle.std.proofs.lemmas.Bool.{eq-eqb, ne_eqb, cases_lt}
use Rattle.ame_term.specs.Tree.{Val, Tree}
use Rattle.ame_term.specs.Frame.{Side, side_told}
use Rattle.ame_term.specs.Context.{Focus, focus}
use Rattle.ame_term.specs.Maps.{at}
use Rattle.ame_term.specs.State.{State, at_value, at_unprotected}
use Rattle.ame_term.specs.declared.types.Sort.{Sort}
use Rattle.ame_laws.proofs.MapLemmas.{numbers-at}
use Rattle.ame_journal.specs.declared.entry.Entry.{Entry}
use Rattle.ame_journal.specs.Replayed.{Replayed, begun_at, is_inside, has_such, side_at, is_at_unprotected, staying, entering}
use Rattle.ame_journal.specs.Replay.{or_else, replay, replay_entry, left_or_ended, fragment}
use Rattle.ame_journal.proofs.ReplayLemmas.{replay_from-one}
use Rattle.ame_journal.proofs.ReachedLemmas.{calm-replayed}
use Rattle.ame_pool.specs.declared.member.Member.{Member}
use Rattle.ame_pool.specs.Members.{IsRising, find}
use Rattle.ame_pool.specs.Found.{IsFoundAfter}
use Rattle.ame_pool.specs.Roster.{Roster}
use Rattle.ame_pool.specs.Calls.{machine_of, removed, renewed, exchanged}
use Rattle.ame_pool.specs.Keeps.{is_inside_at}
use Rattle.ame_pool.proofs.MemberLemmas.{found_altered, found_except}
use Rattle.ame_store.specs.declared.cell.Cell.{Cell}
use Rattle.ame_store.specs.Cells.{IsFree, IsOwnedBy}
use Rattle.ame_store.specs.Changes.{released}
use Rattle.ame_machine.specs.Run.Local.{LocalState, begun_with, local}
use Rattle.ame_machine.specs.Run.AgreesWith.{IsAfterRun, with_members}
use Rattle.ame_machine.specs.Run.Told.{TellsRun}
use Rattle.ame_machine.proofs.Run.ReplayLemmas.{active_run}
use Rattle.ame_machine.proofs.Run.EntryLemmas.{run-ended, run-left}
use Rattle.ame_rows.specs.MemoryView.{MemoryView, no_log}
use Rattle.ame_rows.specs.LettingGo.{released_all}
use Rattle.ame_rows.proofs.LookupLemmas.{row_set_else}
use Rattle.ame_rows.proofs.LettingGoLemmas.{kept_released}
use Rattle.ame_protocol.specs.Row.Heap.{cell_at, IsLive, ShowsStore}
use Rattle.ame_protocol.specs.Row.SeatRun.{SeatRun, HasUsed, AreValid}
use Rattle.ame_protocol.specs.Row.Given.{IsHeld}
use Rattle.ame_protocol.specs.Row.Commits.{StandsAfterCommit}
use Rattle.ame_protocol.proofs.Row.CellLemmas.{which}
use Rattle.ame_protocol.proofs.Row.CommitLemmas.{heap-released}
use Rattle.ame_protocol.proofs.Row.ValidLemmas.{agrees, told}
use Rattle.ame_protocol.proofs.Row.WholeLemmas.{stands-after}
use Rattle.ame_protocol.specs.declared.types.Attempt.{Attempt}
use Rattle.ame_protocol.specs.declared.types.Task.{Task}
use Rattle.ame_protocol.specs.Engine.Logged.{heap_of}
use Rattle.ame_protocol.specs.Engine.Parts.{Parts, whole_journal, heap_in, task_at, attempt_of, member_of, term_at, run_in}
use Rattle.ame_protocol.specs.Engine.Tasks.{is_busy_as, RunsProtected, MeetsTask}
use Rattle.ame_protocol.specs.Engine.Simulates.{HasFewChanges, Simulates}
use Rattle.ame_protocol.specs.Engine.Events.{woken_for, with_newcomers, ran_entry, with_commit, has_ended, has_left}
use Rattle.ame_protocol.proofs.Engine.MemoryLemmas.{memory-committed}
use Rattle.ame_protocol.proofs.Engine.MemoryEvents.{release-cells, release-count, release-own, release-others, release-row}
use Rattle.ame_protocol.proofs.Engine.CarryLemmas.{GoesOn, StaysBusy, tries-on}
use Rattle.ame_protocol.proofs.Engine.PoolLemmas.{found-machine, found-at, inside-told}
use Rattle.ame_protocol.proofs.Engine.GrowthLemmas.{keeps-on, keeps-same, woken-keeps, IsFreeFrom, free-told, woken-free, newcomers-keep, newcomers-told, newcomers-inside, woken-rising, newcomers-rising}
use Rattle.ame_protocol.proofs.Engine.StepLemmas.{step, seat_within, few-later, few-gone, owned_or_not, task_here, task_else}
use Rattle.ame_protocol.proofs.Engine.AccessLemmas.{runs, within}
use Rattle.ame_protocol.proofs.Engine.TurnLemmas.{no-run}
use Rattle.ame_protocol.proofs.Engine.HomeLemmas.{busy-of}

-- the final state of a commit, and the pool in which its member has ended or left
pub record Commits (parts : Parts) (s : Simulates parts) (seat number n : ℕ) (p : LocalState) (ls : List ℕ) (pool : Roster Tree) : Type 0 where
  pub r : Replayed
  pub entry : replay_entry s.r (ran_entry seat number n p) ≡ Some r
  pub after : IsAfterRun s.r.state number p r.state
  pub idle : r.state.active ≡ None
  pub member : ForSome (at r.state.members number) (λ term. term ≡ p.term)
  pub machine : at r.state.members number ≡ machine_of number pool
  pub inside : is_inside r number ≡ is_inside_at pool.members number
  pub others_inside : (k : ℕ) → (k ≡ number → ⊥) → is_inside r k ≡ is_inside s.r k
  pub others : (k : ℕ) → (k ≡ number → ⊥) → find k pool.members ≡ find k (with_newcomers parts.next p.spawns (woken_for ls parts.pool)).members

-- Before the commit

no-member : (members : List (ℕ × Tree)) (next k : ℕ) (o : Option Tree) → at members k ≡ o → (is_some (at members k) ≡ true → k < next) → next ≤ k → at members k ≡ None
no-member members next k None e below above = e
no-member members next k (Some term) e below above = let h = below (ap is_some e) in absurd (omega arith)

module _ (parts : Parts) (s : Simulates parts) where
  -- no member has the next number, or a greater one
  pub free-next : IsFreeFrom parts.next parts.pool
  free-next =
      let orderly = (calm-replayed parts.program (whole_journal parts) s.r s.stands.replayed).orderly in
      free-told parts.next parts.pool
      (λ k above.
      sym (s.stands.members k)
      ∙ no-member s.r.state.members parts.next k (at s.r.state.members k) refl
      (λ there. let h = numbers-at (λ i. i < s.r.state.next) s.r.state.members k there orderly.members_below in subst (λ (x : ℕ). k < x) s.stands.next h) above)

module _ (parts : Parts) (s : Simulates parts) (seat : ℕ) (attempt : Attempt) (task : task_at parts.tasks seat ≡ Task.Running attempt) (left : parts.turns < parts.limits.turns)
    (n : ℕ) (p : LocalState) (place : HasUsed (run_in parts seat attempt.tried.number) n p)
    (valid : AreValid (heap_in parts) seat (run_in parts seat attempt.tried.number).reads) (ls : List ℕ) where
  abbrev number : ℕ
  number = attempt.tried.number

  abbrev run : SeatRun
  run = run_in parts seat number

  abbrev entry : Entry
  entry = ran_entry seat number n p

  abbrev memory : MemoryView Val
  memory = released_all seat parts.memory

  abbrev woken_pool : Roster Tree
  woken_pool = woken_for ls parts.pool

  abbrev later_pool : Roster Tree
  later_pool = with_newcomers parts.next p.spawns woken_pool

  abbrev turns : ℕ
  turns = parts.turns + 1

  abbrev tasks : List Task
  tasks = set parts.tasks seat Task.Idle

  its-runs : RunsProtected parts s.types seat attempt
  its-runs = runs parts s seat attempt task

  in_rows : seat < length parts.memory.rows
  in_rows = within parts s seat attempt task

  free-woken : IsFreeFrom parts.next woken_pool
  free-woken = woken-free parts.next ls parts.pool (free-next parts s)

  abbrev committed_parts : Roster Tree → Parts
  committed_parts pool = record (with_commit seat number n p ls parts) { pool = pool; tasks = tasks; turns = turns }

  -- who is busy is below the next number
  pub below-next : (other i : ℕ) → member_of (task_at parts.tasks other) ≡ Some i → i < parts.next
  below-next other i has =
      let b = busy-of parts s.types other i (task_at parts.tasks other) (s.seats other) has in
      let x = found-at parts.pool i (is_busy_as b.0) b.1 in by (cases_lt i parts.next) x.0 x.1
    where
      by : (i < parts.next) ⊎ (parts.next ≤ i) → (m : Member Tree) → find i parts.pool.members ≡ Some m → i < parts.next
      by (inl below) m found = below
      by (inr above) m found = absurd (let clash : ◌≡◌ {A = Option (Member Tree)} None (Some m) = sym (free-next parts s i above) ∙ found in cc)

  module _ (pool : Roster Tree) (c : Commits parts s seat number n p ls pool) where
    abbrev new : Parts
    new = committed_parts pool

    journal : whole_journal new ≡ whole_journal parts ++ entry ∷ []
    journal = sym (append_assoc parts.base parts.entries (entry ∷ []))

    goes : GoesOn parts new
    goes = record { program = refl; signature = refl; limits = refl; more = entry ∷ []; journal = journal; turns = omega arith }

    replayed : replay parts.program (whole_journal new) ≡ Some c.r
    replayed =
        ap (replay parts.program) journal ∙ replay_from-one (begun_at parts.program) (whole_journal parts) entry
        ∙ ap (option_and_then (λ (r : Replayed). replay_entry r entry)) s.stands.replayed ∙ c.entry

    set-there : (l : ℕ) (o : Option Val) → IsHeld seat (cell_at (heap_in parts) l) o → IsOwnedBy seat (cell_at (heap_in parts) l)
        → or_else o (at s.r.state.store l) ≡ Some (cell_at (heap_in parts) l).value
    set-there l None held own = absurd (held own)
    set-there l (Some v) held own = ap Some (sym held.1)

    unset-there : (l : ℕ) (o : Option Val) → IsHeld seat (cell_at (heap_in parts) l) o → (IsOwnedBy seat (cell_at (heap_in parts) l) → ⊥)
        → or_else o (at s.r.state.store l) ≡ at s.r.state.store l
    unset-there l None held apart = refl
    unset-there l (Some v) held apart = absurd (apart held.0)

    store : ShowsStore (heap_of memory) c.r.state.store
    store l = by (owned_or_not seat (cell_at (heap_in parts) l))
      where
        held : IsHeld seat (cell_at (heap_in parts) l) (at p.sets l)
        held = (its-runs.owes.given n p place).sets l

        by : IsOwnedBy seat (cell_at (heap_in parts) l) ⊎ (IsOwnedBy seat (cell_at (heap_in parts) l) → ⊥) → (heap_of memory).committed l ≡ at c.r.state.store l
        by (inl own) = release-own parts.memory seat l own ∙ sym (set-there l (at p.sets l) held own) ∙ sym (c.after.stored l)
        by (inr apart) =
            release-others parts.memory seat l s.consistent in_rows apart ∙ s.stands.store l ∙ sym (unset-there l (at p.sets l) held apart)
            ∙ sym (c.after.stored l)

    stands : StandsAfterCommit parts.signature s.types seat (heap_in parts) (heap_of memory) c.r.state
    stands =
        stands-after parts.signature s.types (heap_in parts) (heap_of memory) seat run s.r.state number n p its-runs.owes valid its-runs.scoped place
        (memory-committed parts.memory) s.stands.store s.typed.now (release-cells parts.memory seat) c.r.state c.after c.idle c.member store

    told-before : (k : ℕ) → at s.r.state.members k ≡ machine_of k woken_pool
    told-before k = s.stands.members k ∙ sym (woken-keeps ls parts.pool k).machine

    members : (k : ℕ) → at c.r.state.members k ≡ machine_of k pool
    members k = by (which k number)
      where
        by : (k ≡ number) ⊎ ((k ≡ number) → ⊥) → at c.r.state.members k ≡ machine_of k pool
        by (inl same) = subst (λ (m : ℕ). at c.r.state.members m ≡ machine_of m pool) (sym same) c.machine
        by (inr apart) =
            c.after.others k apart ∙ ap (λ (x : ℕ). at (with_members s.r.state.members x p.spawns) k) s.stands.next
            ∙ newcomers-told parts.next p.spawns s.r.state.members woken_pool free-woken told-before k
            ∙ sym (ap (option_map (λ (m : Member Tree). m.machine)) (c.others k apart))

    inside-kept : (k : ℕ) → is_inside_at woken_pool.members k ≡ is_inside_at parts.pool.members k
    inside-kept k =
        inside-told woken_pool.members k ∙ ap (λ (o : Option Bool). unwrap_or o false) (woken-keeps ls parts.pool k).inside
        ∙ sym (inside-told parts.pool.members k)

    inside : (k : ℕ) → is_inside c.r k ≡ is_inside_at pool.members k
    inside k = by (which k number)
      where
        by : (k ≡ number) ⊎ ((k ≡ number) → ⊥) → is_inside c.r k ≡ is_inside_at pool.members k
        by (inl same) = subst (λ (m : ℕ). is_inside c.r m ≡ is_inside_at pool.members m) (sym same) c.inside
        by (inr apart) =
            c.others_inside k apart ∙ s.stands.inside k ∙ sym (inside-kept k) ∙ sym (newcomers-inside parts.next p.spawns woken_pool free-woken k)
            ∙ sym (inside-told pool.members k ∙ ap (λ (o : Option Bool). unwrap_or o false) (ap (option_map (λ (m : Member Tree). m.inside)) (c.others k apart))
            ∙ sym (inside-told later_pool.members k))

    -- the seat's member is no other seat's
    its-own : (other i : ℕ) → (other ≡ seat → ⊥) → member_of (task_at parts.tasks other) ≡ Some i → i ≡ number → ⊥
    its-own other i apart e same = apart (s.apart other seat i e (ap member_of task ∙ ap Some (sym same)))

    kept : (other i : ℕ) → (other ≡ seat → ⊥) → member_of (task_at parts.tasks other) ≡ Some i → StaysBusy parts new i
    kept other i apart has =
        let k =
        keeps-on parts.pool woken_pool pool i (woken-keeps ls parts.pool i)
        (keeps-on woken_pool later_pool pool i (newcomers-keep parts.next p.spawns woken_pool free-woken i (below-next other i has))
        (keeps-same later_pool pool i (c.others i (its-own other i apart has)))) in
        record { machine = k.machine; inside = k.inside; busy = k.busy }

    idle-here : task_at tasks seat ≡ Task.Idle
    idle-here = task_here parts.tasks seat Task.Idle (seat_within parts.tasks seat attempt (ap attempt_of task))

    was-there : (k i : ℕ) → member_of (task_at tasks k) ≡ Some i → member_of (task_at parts.tasks k) ≡ Some i
    was-there k i e = by (which k seat)
      where
        by : (k ≡ seat) ⊎ ((k ≡ seat) → ⊥) → member_of (task_at parts.tasks k) ≡ Some i
        by (inl same) =
            let none : member_of (task_at tasks k) ≡ None = ap (λ (m : ℕ). member_of (task_at tasks m)) same ∙ ap member_of idle-here in
            absurd (let clash : ◌≡◌ {A = Option ℕ} None (Some i) = sym none ∙ e in cc)
        by (inr apart) = sym (ap member_of (task_else parts.tasks seat Task.Idle k apart)) ∙ e

    -- a cell after the release
    released-facts : (l : ℕ) → HasFewChanges turns (cell_at (heap_of memory) l)
        × (IsLive (cell_at (heap_of memory) l) → (cell_at (heap_of memory) l).sort ≡ Sort.Unprotected → IsFree (cell_at (heap_of memory) l))
    released-facts l = by (owned_or_not seat (cell_at (heap_in parts) l))
      where
        by : IsOwnedBy seat (cell_at (heap_in parts) l) ⊎ (IsOwnedBy seat (cell_at (heap_in parts) l) → ⊥)
            → HasFewChanges turns (cell_at (heap_of memory) l)
            × (IsLive (cell_at (heap_of memory) l) → (cell_at (heap_of memory) l).sort ≡ Sort.Unprotected → IsFree (cell_at (heap_of memory) l))
        by (inl own) =
            let is = (release-cells parts.memory seat).own l own in
            let few = few-gone parts.turns seat (cell_at (heap_in parts) l) own (s.bounded.numbers l) in
            let more : (cell_at (heap_in parts) l).number + 1 ≤ 2 * turns = omega arith in
            let here : HasFewChanges turns (released (cell_at (heap_in parts) l)) = more in
            (subst (HasFewChanges turns) (sym is) here, λ live its. ap (λ (x : Cell Val). x.owner) is)
        by (inr apart) =
            let is = (release-cells parts.memory seat).others l apart in (
              subst (HasFewChanges turns) (sym is) (few-later parts.turns turns (cell_at (heap_in parts) l) (omega arith) (s.bounded.numbers l)),
              λ live its.
                  subst IsFree (sym is) (s.typed.shared l (subst IsLive is live) (sym (ap (λ (x : Cell Val). x.sort) is) ∙ its)),
            )

    pub commits_stand : Simulates new
    commits_stand =
        step parts new s seat (record {
          r = c.r;
          types = s.types;
          on = goes;
          grows = λ m x e. e;
          stands = record {
            replayed = replayed;
            store = store;
            members = members;
            inside = inside;
            output = c.after.output ∙ ap (λ (xs : List ℤ). xs ++ p.prints) s.stands.output;
            next = c.after.next ∙ ap (λ (x : ℕ). x + length p.spawns) s.stands.next;
          };
          typed = record {
            heap = heap-released parts.signature s.types (heap_in parts) (heap_of memory) seat s.typed.heap (release-cells parts.memory seat) (release-count parts.memory seat);
            now = stands.typed (calm-replayed parts.program (whole_journal new) c.r replayed).orderly.members_rise;
            shared = λ l. (released-facts l).1;
          };
          consistent = kept_released parts.memory seat s.consistent in_rows;
          framed = λ other apart. stands.framed other (λ e. apart (sym e));
          rows = λ other apart. row_set_else parts.memory.rows seat other no_log apart;
          tasks = task_else parts.tasks seat Task.Idle;
          busy = λ other apart i e. kept other i apart e;
          own = subst (MeetsTask new s.types seat) (sym idle-here) (release-row parts.memory seat in_rows);
          apart = λ k other i e f. s.apart k other i (was-there k i e) (was-there other i f);
          bounded = record {
            turns = omega arith;
            numbers = λ l. (released-facts l).0;
            cells = let h = s.bounded.cells in let e = release-count parts.memory seat in omega arith;
            rows = length-set parts.memory.rows seat no_log ∙ s.bounded.rows;
            tasks = length-set parts.tasks seat Task.Idle ∙ s.bounded.tasks;
          };
          sound = tries-on parts new goes parts.tried s.sound;
        })

  -- The ways in which the member has ended or left

  term-there : at s.r.state.members number ≡ Some (term_at parts.pool number)
  term-there = s.stands.members number ∙ found-machine parts.pool number false its-runs.work.busy

  outside : is_inside s.r number ≡ false
  outside =
      s.stands.inside number ∙ inside-told parts.pool.members number ∙ ap (λ (o : Option Bool). unwrap_or o false) its-runs.outside

  module _ (calm : at_unprotected (focus (term_at parts.pool number)) ≡ false) where
    on_side : side_at number s.r.state ≡ Side.Protected
    on_side = ap (λ (o : Option Tree). side_told (has_such (λ term. at_unprotected (focus term)) o)) term-there ∙ ap side_told calm

    quiet : p.answer ≡ None
    quiet =
        (active_run s.r.state number run.start run.inputs term-there (calm-replayed parts.program (whole_journal parts) s.r s.stands.replayed).idle calm n p
        place.ran (agrees (heap_in parts) seat s.r.state.store (memory-committed parts.memory) s.stands.store run.reads p valid (its-runs.owes.given n p place))).quiet

    tells : TellsRun s.r entry Side.Protected n p
    tells =
        told (heap_in parts) seat run s.r entry n p (memory-committed parts.memory) s.stands.store its-runs.owes.given valid place
        (calm-replayed parts.program (whole_journal parts) s.r s.stands.replayed).idle on_side term-there refl (sym quiet)

  -- the member's place in the later pool
  later-member : (m : Member Tree) × (find number later_pool.members ≡ Some m)
  later-member =
      let k = keeps-on parts.pool woken_pool later_pool number (woken-keeps ls parts.pool number)
      (newcomers-keep parts.next p.spawns woken_pool free-woken number (below-next seat number (ap member_of task))) in
      let x = found-at later_pool number (is_busy_as false) (k.busy false its-runs.work.busy) in (x.0, x.1)

  value-calm : (f : Focus) → at_value f ≡ true → at_unprotected f ≡ false
  value-calm (Focus.AtValue v) e = refl
  value-calm (Focus.AtRedex side redex) e = absurd (let clash : false ≡ true = e in cc)

  -- a run that stands at `unprotected` from the first has made no step
  stays-there : (m : ℕ) (q : LocalState) → local Side.Protected run.start run.inputs m ≡ Some q → at_unprotected (focus run.start) ≡ true
      → (m ≡ 0) × (q ≡ begun_with run.start run.inputs)
  stays-there zero q ran at_it = let same : begun_with run.start run.inputs ≡ q = cc in (refl, sym same)
  stays-there (suc m) q ran at_it = absurd (let clash : ◌≡◌ {A = Option LocalState} None (Some q) = sym (no-run (begun_with run.start run.inputs) m at_it) ∙ ran in cc)

  by-start : (b : Bool) → at_unprotected (focus run.start) ≡ b → at_value (focus p.term) ≡ true → at_unprotected (focus run.start) ≡ false
  by-start false e value = e
  by-start true e value =
      let same = (stays-there n p place.ran e).1 in
      let its : at_unprotected (focus p.term) ≡ true = ap (λ (q : LocalState). at_unprotected (focus q.term)) same ∙ e in
      absurd (let clash : true ≡ false = sym its ∙ value-calm (focus p.term) value in cc)

  abbrev machine-told : Option (Member Tree) → Option Tree
  machine-told o = option_map (λ (m : Member Tree). m.machine) o

  abbrev inside-told-of : Option (Member Tree) → Bool
  inside-told-of o = unwrap_or (option_map (λ (m : Member Tree). m.inside) o) false

  pub ended_stands : IsRising parts.pool.members → at_value (focus p.term) ≡ true → Simulates (has_ended seat number n p ls parts)
  ended_stands rising value =
      let start_calm = by-start (at_unprotected (focus run.start)) refl value in
      let orderly = (calm-replayed parts.program (whole_journal parts) s.r s.stands.replayed).orderly in
      let x = run-ended s.r entry n p (tells start_calm) refl refl outside orderly value in
      let found = found_except number later_pool.members (newcomers-rising parts.next p.spawns woken_pool free-woken (woken-rising ls parts.pool rising)) in
      let gone : find number (removed number later_pool).members ≡ None = found.here in
      commits_stand (removed number later_pool) (record {
        r = staying s.r x.0;
        entry = x.1;
        after = x.2;
        idle = x.4;
        member = λ term is. absurd (let clash : ◌≡◌ {A = Option Tree} None (Some term) = sym x.3 ∙ is in cc);
        machine = x.3 ∙ sym (ap machine-told gone);
        inside = outside ∙ sym (inside-told (removed number later_pool).members number ∙ ap inside-told-of gone);
        others_inside = λ k apart. refl;
        others = found.others;
      })

  -- the member has come to `unprotected`
  left_found : IsFoundAfter number (option_map (renewed p.term true)) later_pool.members (exchanged number p.term true later_pool).members
  left_found = found_altered number (renewed p.term true) (λ _. refl) later_pool.members

  left-here : find number (exchanged number p.term true later_pool).members ≡ Some (renewed p.term true later-member.0)
  left-here = left_found.here ∙ ap (option_map (renewed p.term true)) later-member.1

  enters-here : (t : State) → is_inside (entering s.r number t) number ≡ true
  enters-here t = ap (λ (b : Bool). b || is_inside s.r number) (eq-eqb number number refl)

  enters-else : (t : State) (k : ℕ) → (k ≡ number → ⊥) → is_inside (entering s.r number t) k ≡ is_inside s.r k
  enters-else t k apart = ap (λ (b : Bool). b || is_inside s.r k) (ne_eqb number k (λ e. apart (sym e)))

  entered : (t : State) → replay_entry s.r entry ≡ Some (entering s.r number t) → IsAfterRun s.r.state number p t → at t.members number ≡ Some p.term → t.active ≡ None
      → Simulates (has_left seat number n p ls parts)
  entered t is after there idle =
      commits_stand (exchanged number p.term true later_pool) (record {
        r = entering s.r number t;
        entry = is;
        after = after;
        idle = idle;
        member =
            λ term found. let both : ◌≡◌ {A = Option Tree} (Some p.term) (Some term) = sym there ∙ found in let same : p.term ≡ term = cc in sym same;
        machine = there ∙ sym (ap machine-told left-here);
        inside = enters-here t ∙ sym (inside-told (exchanged number p.term true later_pool).members number ∙ ap inside-told-of left-here);
        others_inside = enters-else t;
        others = left_found.others;
      })

  -- This also holds if it was there from the first.
  arrived : at_unprotected (focus run.start) ≡ true → Simulates (has_left seat number n p ls parts)
  unfolding replay_entry
  arrived at_it =
      let stays = stays-there n p place.ran at_it in
      let first = begun_with run.start run.inputs in
      let t = s.r.state in
      let same : replay_entry s.r entry ≡ replay_entry s.r (ran_entry seat number 0 first) = (λ i. replay_entry s.r (ran_entry seat number (stays.0 i) (stays.1 i))) in
      let arrives : replay_entry s.r (ran_entry seat number 0 first) ≡ Some (entering s.r number t) =
      ap (λ (b : Bool). if b then None else (if is_at_unprotected number t then Some (entering s.r number t) else option_and_then (left_or_ended s.r number) (fragment number 0 [] t))) outside
      ∙ ap (λ (b : Bool). if b then Some (entering s.r number t) else option_and_then (left_or_ended s.r number) (fragment number 0 [] t))
      (ap (has_such (λ term. at_unprotected (focus term))) term-there ∙ at_it) in
      let after : IsAfterRun t number first t = record {
        stored = λ l. refl;
        output = sym (append-nil t.output);
        others = λ k apart. refl;
        next = omega arith;
      } in
      entered t (same ∙ arrives) (subst (λ (q : LocalState). IsAfterRun t number q t) (sym stays.1) after)
      (term-there ∙ ap (λ (q : LocalState). Some q.term) (sym stays.1)) (calm-replayed parts.program (whole_journal parts) s.r s.stands.replayed).idle

  pub left_stands : at_unprotected (focus p.term) ≡ true → Simulates (has_left seat number n p ls parts)
  left_stands stands = by (at_unprotected (focus run.start)) refl
    where
      by : (b : Bool) → at_unprotected (focus run.start) ≡ b → Simulates (has_left seat number n p ls parts)
      by true at_it = arrived at_it
      by false start_calm =
          let x = run-left s.r entry n p (tells start_calm) refl refl outside stands in entered x.0 x.1 x.2 x.3 x.4
