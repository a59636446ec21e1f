-- A row that is at work is noted as cut off, or as about to become a value that is too high.
use Rattle.std.proofs.Common.{◌≡◌, ℕ, zero, suc, ◌+◌, ◌<◌, ◌≤◌, ◌==◌, ◌⊎◌, inl, inr, Bool, true, false, List, [], ◌∷◌, ◌++◌, set, Option, Some, None, length-set, append_assoc, refl, sym, ap, ◌∙◌, subst, arith}
use Rattle.std.specs.Prelude.{option_map, option_and_then}
use Rattle.ame_term.specs.Tree.{Val, Tree}
use Rattle.ame_term.specs.Frame.{Side, side_told}
use Rattle.ame_term.specs.Context.{Focus, focus}
use Rattle.ame_term.specs.Height.{max_height}
use Rattle.ame_term.specs.Maps.{at}
use Rattle.ame_term.specs.State.{at_unprotected}
use Rattle.ame_journal.specs.declared.entry.Entry.{Entry}
use Rattle.ame_journal.specs.declared.entry.EntryKind.{EntryKind}
use Rattle.ame_journal.specs.Replayed.{Replayed, begun_at, has_such, side_at, coming_height}
use Rattle.ame_journal.specs.Replay.{replay, replay_entry}
use Rattle.ame_journal.proofs.ReplayLemmas.{replay_from-one}
use Rattle.ame_journal.proofs.ReachedLemmas.{calm-replayed}
use Rattle.ame_laws.specs.Typed.StoreTyping.{StoreTyping}
use Rattle.ame_pool.specs.Begin.{is_exhausted}
use Rattle.ame_pool.specs.Calls.{IsAt}
use Rattle.ame_machine.specs.Run.Local.{LocalState, begun_with, local}
use Rattle.ame_machine.specs.Run.AgreesWith.{AgreesWith}
use Rattle.ame_machine.specs.Run.Told.{TellsRun, IsTooHigh}
use Rattle.ame_machine.proofs.Run.ReplayLemmas.{active_run}
use Rattle.ame_machine.proofs.Run.EntryLemmas.{either-cut, either-tall}
use Rattle.ame_protocol.specs.Row.Heap.{cell_at}
use Rattle.ame_protocol.specs.Row.Framed.{IsFramedAt, IsFramed}
use Rattle.ame_protocol.specs.Row.SeatRun.{SeatRun, HasUsed, AreValid}
use Rattle.ame_protocol.proofs.Row.CellLemmas.{which}
use Rattle.ame_protocol.proofs.Row.ValidLemmas.{agrees, told}
use Rattle.ame_protocol.specs.declared.types.Attempt.{Attempt}
use Rattle.ame_protocol.specs.declared.types.Task.{Task}
use Rattle.ame_protocol.specs.Engine.Parts.{Parts, whole_journal, heap_in, task_at, attempt_of, member_of, term_at, run_in}
use Rattle.ame_protocol.specs.Engine.Tasks.{is_noted_for, HasAtWork, RunsProtected, MeetsTask}
use Rattle.ame_protocol.specs.Engine.Simulates.{Simulates}
use Rattle.ame_protocol.specs.Engine.Alone.{is_of_protected, IsExhausted, RunsExclusively}
use Rattle.ame_protocol.proofs.Engine.MemoryLemmas.{memory-committed}
use Rattle.ame_protocol.proofs.Engine.CarryLemmas.{GoesOn, carried, tries-on}
use Rattle.ame_protocol.proofs.Engine.PoolLemmas.{found-machine}
use Rattle.ame_protocol.proofs.Engine.StepLemmas.{step, seat_within, few-later, task_here, task_else}
use Rattle.ame_protocol.proofs.Engine.AccessLemmas.{runs}
use Rattle.ame_protocol.proofs.Engine.TurnLemmas.{no-run}
use Rattle.ame_protocol.proofs.Engine.ToldLemmas.{stopped_stands}
use Rattle.ame_protocol.specs.Visits.Visit.{StepsTo}
use Rattle.ame_protocol.specs.Visits.Stops.{MayBeNoted, told_attempt, told_task, note_entry, has_been_cut, has_grown_tall}
use Rattle.ame_protocol.proofs.Visits.PlaceLemmas.{alone, calm, term-there, on-side}

-- The entry is replayed

-- a run that stands at `unprotected` from the first has made no step
stays-there : (start : Tree) (inputs : List Val) (m : ℕ) (q : LocalState) → local Side.Protected start inputs m ≡ Some q → at_unprotected (focus start) ≡ true
    → (m ≡ 0) × (q ≡ begun_with start inputs)
stays-there start inputs zero q ran at_it = let same : begun_with start inputs ≡ q = cc in (refl, sym same)
stays-there start inputs (suc m) q ran at_it =
    absurd (let clash : ◌≡◌ {A = Option LocalState} None (Some q) = sym (no-run (begun_with start inputs) m at_it) ∙ ran in cc)

-- and no value of protected code comes there
low-there : (f : Focus) → at_unprotected f ≡ true → coming_height Side.Protected f ≡ 0
low-there (Focus.AtValue v) e = refl
low-there (Focus.AtRedex Side.Unprotected redex) e = refl
low-there (Focus.AtRedex Side.Protected (Tree.Unprotected part)) e = refl
low-there (Focus.AtRedex Side.Protected _) e = absurd (let clash : false ≡ true = e in cc)

module _ (parts : Parts) (s : Simulates parts) (seat : ℕ) (attempt : Attempt) where
  abbrev number : ℕ
  number = attempt.tried.number

  module _ (task : task_at parts.tasks seat ≡ Task.Running attempt) (n : ℕ) (p : LocalState) (place : HasUsed (run_in parts seat number) n p)
      (valid : AreValid (heap_in parts) seat (run_in parts seat number).reads) where
    abbrev run : SeatRun
    run = run_in parts seat number

    its-runs : RunsProtected parts s.types seat attempt
    its-runs = runs parts s seat attempt task

    idle : s.r.state.active ≡ None
    idle = (calm-replayed parts.program (whole_journal parts) s.r s.stands.replayed).idle

    there : at s.r.state.members number ≡ Some run.start
    there = s.stands.members number ∙ found-machine parts.pool number false its-runs.work.busy

    side-there : (b : Bool) → at_unprotected (focus run.start) ≡ b → side_at number s.r.state ≡ side_told b
    side-there b e = ap (λ (o : Option Tree). side_told (has_such (λ term. at_unprotected (focus term)) o)) there ∙ ap side_told e

    -- If the run began elsewhere, the entry records it.
    module _ (calm_start : at_unprotected (focus run.start) ≡ false) where
      quiet : p.answer ≡ None
      quiet =
          (active_run s.r.state number run.start run.inputs there idle calm_start n p place.ran
          (agrees (heap_in parts) seat s.r.state.store (memory-committed parts.memory) s.stands.store run.reads p valid (its-runs.owes.given n p place))).quiet

      tells : (entry : Entry) → entry.number ≡ number → entry.fresh ≡ p.fresh → entry.answer ≡ None → TellsRun s.r entry Side.Protected n p
      tells entry its fresh answer =
          told (heap_in parts) seat run s.r entry n p (memory-committed parts.memory) s.stands.store its-runs.owes.given valid place idle
          (ap (λ (k : ℕ). side_at k s.r.state) its ∙ side-there false calm_start) (ap (at s.r.state.members) its ∙ there) fresh (answer ∙ sym quiet)

    -- If the run began at `unprotected`, it made no step.
    first-cut : at_unprotected (focus run.start) ≡ true → replay_entry s.r (note_entry EntryKind.Cut seat number n p) ≡ Some s.r
    first-cut at_it =
        let stays = stays-there run.start run.inputs n p place.ran at_it in
        let first = begun_with run.start run.inputs in
        let entry = note_entry EntryKind.Cut seat number 0 first in
        let same : replay_entry s.r (note_entry EntryKind.Cut seat number n p) ≡ replay_entry s.r entry =
        (λ i. replay_entry s.r (note_entry EntryKind.Cut seat number (stays.0 i) (stays.1 i))) in
        let tells_it : TellsRun s.r entry Side.Unprotected 0 first = record {
          idle = idle;
          stands = side-there true at_it;
          term = run.start;
          member = there;
          inputs = run.inputs;
          ran = refl;
          agrees = record { seen = tt; own = tt; made = tt };
          fresh = refl;
          answer = refl;
        } in
        same ∙ either-cut s.r entry 0 first Side.Unprotected tells_it refl refl refl

    pub running-cut : replay_entry s.r (note_entry EntryKind.Cut seat number n p) ≡ Some s.r
    running-cut = by (at_unprotected (focus run.start)) refl
      where
        by : (b : Bool) → at_unprotected (focus run.start) ≡ b → replay_entry s.r (note_entry EntryKind.Cut seat number n p) ≡ Some s.r
        by true at_it = first-cut at_it
        by false elsewhere =
            let entry = note_entry EntryKind.Cut seat number n p in
            either-cut s.r entry n p Side.Protected (tells elsewhere entry refl refl refl) refl refl (quiet elsewhere)

    pub running-tall : IsTooHigh Side.Protected p → replay_entry s.r (note_entry EntryKind.Tall seat number n p) ≡ Some s.r
    running-tall high = by (at_unprotected (focus run.start)) refl
      where
        by : (b : Bool) → at_unprotected (focus run.start) ≡ b → replay_entry s.r (note_entry EntryKind.Tall seat number n p) ≡ Some s.r
        by true at_it =
            let first = (stays-there run.start run.inputs n p place.ran at_it).1 in
            let low : coming_height Side.Protected (focus p.term) ≡ 0 =
            ap (λ (z : LocalState). coming_height Side.Protected (focus z.term)) first ∙ low-there (focus run.start) at_it in
            absurd (let clash : false ≡ true = sym (ap (λ (h : ℕ). h == max_height + 1) low) ∙ high in cc)
        by false elsewhere =
            let entry = note_entry EntryKind.Tall seat number n p in
            either-tall s.r entry n p Side.Protected (tells elsewhere entry refl refl refl) refl refl (quiet elsewhere) high

  -- Unprotected code

  module _ (task : task_at parts.tasks seat ≡ Task.Free attempt) (n : ℕ) (p : LocalState) (ran : StepsTo parts number n p) where
    bare : p ≡ begun_with p.term []
    bare = alone (term_at parts.pool number) n p ran

    silent : p.answer ≡ None
    silent = ap (λ (z : LocalState). z.answer) bare

    free-tells : (entry : Entry) → entry.number ≡ number → entry.fresh ≡ p.fresh → entry.answer ≡ None → TellsRun s.r entry Side.Unprotected n p
    free-tells entry its fresh answer = record {
      idle = (calm parts s seat attempt task).idle;
      stands = ap (λ (k : ℕ). side_at k s.r.state) its ∙ on-side parts s seat attempt task;
      term = term_at parts.pool number;
      member = ap (at s.r.state.members) its ∙ term-there parts s seat attempt task;
      inputs = [];
      ran = ran;
      agrees = subst (AgreesWith s.r.state.store) (sym bare) (record { seen = tt; own = tt; made = tt });
      fresh = fresh;
      answer = answer ∙ sym silent;
    }

    pub free-cut : replay_entry s.r (note_entry EntryKind.Cut seat number n p) ≡ Some s.r
    free-cut =
        let entry = note_entry EntryKind.Cut seat number n p in
        either-cut s.r entry n p Side.Unprotected (free-tells entry refl refl refl) refl refl silent

    pub free-tall : IsTooHigh Side.Unprotected p → replay_entry s.r (note_entry EntryKind.Tall seat number n p) ≡ Some s.r
    free-tall high =
        let entry = note_entry EntryKind.Tall seat number n p in
        either-tall s.r entry n p Side.Unprotected (free-tells entry refl refl refl) refl refl silent high

-- each row that may be noted
module _ (parts : Parts) (s : Simulates parts) (seat : ℕ) where
  pub noted-cut : (task : Task) (side : Side) (number n : ℕ) (p : LocalState) → MayBeNoted parts seat task side number n p → task_at parts.tasks seat ≡ task
      → replay_entry s.r (note_entry EntryKind.Cut seat number n p) ≡ Some s.r
  noted-cut _ _ _ _ _ (MayBeNoted.running attempt n p place valid) at_it = running-cut parts s seat attempt at_it n p place valid
  noted-cut _ _ _ _ _ (MayBeNoted.free attempt n p ran) at_it = free-cut parts s seat attempt at_it n p ran

  pub noted-tall : (task : Task) (side : Side) (number n : ℕ) (p : LocalState) → MayBeNoted parts seat task side number n p → task_at parts.tasks seat ≡ task
      → IsTooHigh side p → replay_entry s.r (note_entry EntryKind.Tall seat number n p) ≡ Some s.r
  noted-tall _ _ _ _ _ (MayBeNoted.running attempt n p place valid) at_it high = running-tall parts s seat attempt at_it n p place valid high
  noted-tall _ _ _ _ _ (MayBeNoted.free attempt n p ran) at_it high = free-tall parts s seat attempt at_it n p ran high

-- who may be noted is at work
pub at-work : (parts : Parts) (seat : ℕ) (task : Task) (side : Side) (number n : ℕ) (p : LocalState) → MayBeNoted parts seat task side number n p
    → (attempt : Attempt) × (attempt_of task ≡ Some attempt)
at-work parts seat _ _ _ _ _ (MayBeNoted.running attempt n p place valid) = (attempt, refl)
at-work parts seat _ _ _ _ _ (MayBeNoted.free attempt n p ran) = (attempt, refl)

-- The seat goes on with its task, for which an entry was added

told-work : (parts : Parts) (noted : Bool) (attempt : Attempt) → HasAtWork parts noted attempt → HasAtWork parts noted (told_attempt attempt)
told-work parts noted attempt h = record { busy = h.busy; sound = h.sound; few = h.few }

told-meets : (parts : Parts) (types : StoreTyping) (seat : ℕ) (task : Task) → MeetsTask parts types seat task → MeetsTask parts types seat (told_task task)
told-meets parts types seat Task.Idle h = h
told-meets parts types seat (Task.Running attempt) h =
    record { work = told-work parts false attempt h.work; outside = h.outside; somewhere = h.somewhere; owes = h.owes; typed = h.typed; scoped = h.scoped }
told-meets parts types seat (Task.Free attempt) h = record { work = told-work parts false attempt h.work; inside = h.inside; clear = h.clear }
told-meets parts types seat (Task.Undoing attempt reason) h =
    record { work = told-work parts (is_noted_for reason) attempt h.work; outside = h.outside; undos = h.undos }

same-member : (task : Task) → member_of (told_task task) ≡ member_of task
same-member Task.Idle = refl
same-member (Task.Running attempt) = refl
same-member (Task.Free attempt) = refl
same-member (Task.Undoing attempt reason) = refl

same-side : (task : Task) → is_of_protected (told_task task) ≡ is_of_protected task
same-side Task.Idle = refl
same-side (Task.Running attempt) = refl
same-side (Task.Free attempt) = refl
same-side (Task.Undoing attempt reason) = refl

module _ (parts : Parts) (seat : ℕ) (task : Task) (attempt : Attempt) (at_it : task_at parts.tasks seat ≡ task)
    (has : attempt_of task ≡ Some attempt) (entry : Entry) (turns : ℕ) where
  abbrev tasks : List Task
  tasks = set parts.tasks seat (told_task task)

  abbrev new : Parts
  new = record parts { entries = parts.entries ++ entry ∷ []; tasks = tasks; turns = turns }

  told-here : task_at tasks seat ≡ told_task task
  told-here = task_here parts.tasks seat (told_task task) (seat_within parts.tasks seat attempt (ap attempt_of at_it ∙ has))

  -- A fact of tasks stays if it doesn't depend on whether an entry was added.
  stays : {X : Type 0} (tell : Task → X) → tell (told_task task) ≡ tell task → (k : ℕ) → tell (task_at tasks k) ≡ tell (task_at parts.tasks k)
  stays tell same k = by (which k seat)
    where
      by : (k ≡ seat) ⊎ ((k ≡ seat) → ⊥) → tell (task_at tasks k) ≡ tell (task_at parts.tasks k)
      by (inl one) = subst (λ (m : ℕ). tell (task_at tasks m) ≡ tell (task_at parts.tasks m)) (sym one) (ap tell told-here ∙ same ∙ sym (ap tell at_it))
      by (inr apart) = ap tell (task_else parts.tasks seat (told_task task) k apart)

  pub noted-alone : RunsExclusively parts → RunsExclusively (record new { stopped = true })
  noted-alone a = record {
    alone = λ k other t exhausted e. by k other t exhausted e (number-of t.tried.number (attempt_of (task_at parts.tasks k)) (was k t exhausted));
    running = λ going k t exhausted. absurd (let clash : true ≡ false = going in cc);
    valid = λ going k t exhausted. absurd (let clash : true ≡ false = going in cc);
  }
    where
      was : (k : ℕ) (t : Attempt) → IsExhausted (record new { stopped = true }) k t → member_of (task_at parts.tasks k) ≡ Some t.tried.number
      was k t exhausted = sym (stays member_of (same-member task) k) ∙ ap (option_map (λ (x : Attempt). x.tried.number)) exhausted.has

      number-of : (i : ℕ) (o : Option Attempt) → option_map (λ (x : Attempt). x.tried.number) o ≡ Some i → (t : Attempt) × (o ≡ Some t) × (t.tried.number ≡ i)
      number-of i None e = cc
      number-of i (Some t) e = (t, refl, cc)

      by : (k other : ℕ) (t : Attempt) → IsExhausted (record new { stopped = true }) k t → is_of_protected (task_at tasks other) ≡ true
          → (x : Attempt) × (attempt_of (task_at parts.tasks k) ≡ Some x) × (x.tried.number ≡ t.tried.number) → other ≡ k
      by k other t exhausted e x =
          a.alone k other x.0
          (record {
            task = sym (stays is_of_protected (same-side task) k) ∙ exhausted.task;
            has = x.1;
            exhausted = subst (λ (i : ℕ). IsAt is_exhausted i parts.pool) (sym x.2) exhausted.exhausted;
          })
          (sym (stays is_of_protected (same-side task) other) ∙ e)

  module _ (s : Simulates parts) (noted : replay_entry s.r entry ≡ Some s.r) (later : parts.turns ≤ turns) (left : turns ≤ parts.limits.turns) where
    journal : whole_journal new ≡ whole_journal parts ++ entry ∷ []
    journal = sym (append_assoc parts.base parts.entries (entry ∷ []))

    goes : GoesOn parts new
    goes = record { program = refl; signature = refl; limits = refl; more = entry ∷ []; journal = journal; turns = later }

    replayed : replay parts.program (whole_journal new) ≡ Some s.r
    replayed =
        ap (replay parts.program) journal ∙ replay_from-one (begun_at parts.program) (whole_journal parts) entry
        ∙ ap (option_and_then (λ (r : Replayed). replay_entry r entry)) s.stands.replayed ∙ noted

    framed : (k : ℕ) → IsFramed k (heap_in parts) (heap_in new)
    framed k = record { places = λ m. IsFramedAt.stays refl refl; longer = omega arith }

    its-own : MeetsTask new s.types seat (told_task task)
    its-own =
        told-meets new s.types seat task
        (carried parts new s.types s.types seat goes (λ m c e. e) (framed seat) refl task (λ i e. record { machine = refl; inside = refl; busy = λ noted h. h })
        (subst (MeetsTask parts s.types seat) at_it (s.seats seat)))

    pub note-stands : Simulates (record new { stopped = true })
    note-stands =
        stopped_stands new
        (step parts new s seat (record {
          r = s.r;
          types = s.types;
          on = goes;
          grows = λ m c e. e;
          stands = record {
            replayed = replayed;
            store = s.stands.store;
            members = s.stands.members;
            inside = s.stands.inside;
            output = s.stands.output;
            next = s.stands.next;
          };
          typed = record { heap = s.typed.heap; now = s.typed.now; shared = s.typed.shared };
          consistent = s.consistent;
          framed = λ other apart. framed other;
          rows = λ other apart. refl;
          tasks = task_else parts.tasks seat (told_task task);
          busy = λ other apart i e. record { machine = refl; inside = refl; busy = λ noted h. h };
          own = subst (MeetsTask new s.types seat) (sym told-here) its-own;
          apart = λ k other i e f.
              s.apart k other i (sym (stays member_of (same-member task) k) ∙ e) (sym (stays member_of (same-member task) other) ∙ f);
          bounded = record {
            turns = left;
            numbers = λ l. few-later parts.turns turns (cell_at (heap_in parts) l) later (s.bounded.numbers l);
            cells = let h = s.bounded.cells in omega arith;
            rows = s.bounded.rows;
            tasks = length-set parts.tasks seat (told_task task) ∙ s.bounded.tasks;
          };
          sound = tries-on parts new goes parts.tried s.sound;
        }))

module _ (parts : Parts) (seat : ℕ) (task : Task) (side : Side) (number n : ℕ) (p : LocalState) (at_it : task_at parts.tasks seat ≡ task)
    (may : MayBeNoted parts seat task side number n p) where
  its-work : (attempt : Attempt) × (attempt_of task ≡ Some attempt)
  its-work = at-work parts seat task side number n p may

  pub cut-stands : Simulates parts → Simulates (has_been_cut seat number n p task parts)
  cut-stands s =
      note-stands parts seat task its-work.0 at_it its-work.1 (note_entry EntryKind.Cut seat number n p) parts.turns s
      (noted-cut parts s seat task side number n p may at_it) (omega arith) s.bounded.turns

  pub tall-stands : Simulates parts → parts.turns < parts.limits.turns → IsTooHigh side p → Simulates (has_grown_tall seat number n p task parts)
  tall-stands s left high =
      note-stands parts seat task its-work.0 at_it its-work.1 (note_entry EntryKind.Tall seat number n p) (parts.turns + 1) s
      (noted-tall parts s seat task side number n p may at_it high) (omega arith) (omega arith)

  pub cut-alone : RunsExclusively parts → RunsExclusively (has_been_cut seat number n p task parts)
  cut-alone = noted-alone parts seat task its-work.0 at_it its-work.1 (note_entry EntryKind.Cut seat number n p) parts.turns

  pub tall-alone : RunsExclusively parts → RunsExclusively (has_grown_tall seat number n p task parts)
  tall-alone = noted-alone parts seat task its-work.0 at_it its-work.1 (note_entry EntryKind.Tall seat number n p) (parts.turns + 1)
