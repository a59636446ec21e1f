-- A member has come to a condition that is false, and is noted.
use Rattle.std.proofs.Common.{◌≡◌, ℕ, zero, suc, ◌+◌, ◌*◌, ◌<◌, ◌≤◌, ◌⊎◌, inl, inr, Bool, true, false, List, [], ◌∷◌, ◌++◌, set, length, Option, Some, None, IsSomeAnd, IsTrue, length-set, append_assoc, refl, sym, ap, ◌∙◌, subst, arith}
use Rattle.std.specs.Prelude.{option_map, option_and_then}
use Rattle.std.proofs.Math.Nat.{mul-le-mul_left}
use Rattle.ame_term.specs.Tree.{Val, Tree}
use Rattle.ame_term.specs.Frame.{Side, side_told}
use Rattle.ame_term.specs.Context.{Focus, focus}
use Rattle.ame_term.specs.Maps.{at}
use Rattle.ame_term.specs.State.{at_unprotected}
use Rattle.ame_journal.specs.declared.entry.Entry.{Entry}
use Rattle.ame_journal.specs.Replayed.{Replayed, begun_at, has_such, side_at, is_false_condition}
use Rattle.ame_journal.specs.Replay.{replay, replay_entry}
use Rattle.ame_journal.proofs.ReplayLemmas.{replay_from-one}
use Rattle.ame_journal.proofs.ReachedLemmas.{IsCalm, calm-replayed}
use Rattle.ame_pool.specs.declared.member.Member.{Member}
use Rattle.ame_pool.specs.Members.{find}
use Rattle.ame_pool.specs.Found.{IsFoundAfter}
use Rattle.ame_pool.specs.Roster.{Roster}
use Rattle.ame_pool.specs.Begin.{is_exhausted}
use Rattle.ame_pool.specs.Calls.{IsAt, noted_on, noted, machine_of, inside_of}
use Rattle.ame_pool.proofs.MemberLemmas.{found_altered}
use Rattle.ame_machine.specs.Run.Local.{LocalState, begun_with, local}
use Rattle.ame_machine.specs.Run.Told.{TellsRun}
use Rattle.ame_machine.proofs.Run.ReplayLemmas.{active_run}
use Rattle.ame_machine.proofs.Run.EntryLemmas.{run-stuck}
use Rattle.ame_rows.specs.MemoryView.{row_at}
use Rattle.ame_protocol.specs.Row.Heap.{cell_at}
use Rattle.ame_protocol.specs.Row.SeatRun.{SeatRun, HasUsed, AreValid}
use Rattle.ame_protocol.specs.Row.Framed.{IsFramedAt}
use Rattle.ame_protocol.specs.Row.Waiting.{read_places}
use Rattle.ame_protocol.proofs.Row.CellLemmas.{which}
use Rattle.ame_protocol.proofs.Row.ValidLemmas.{agrees, told}
use Rattle.ame_protocol.specs.declared.types.Attempt.{Attempt}
use Rattle.ame_protocol.specs.declared.types.UndoReason.{UndoReason}
use Rattle.ame_protocol.specs.declared.types.Task.{Task}
use Rattle.ame_protocol.specs.Engine.Parts.{Parts, whole_journal, heap_in, task_at, attempt_of, member_of, term_at, run_in}
use Rattle.ame_protocol.specs.Engine.Tasks.{is_busy_as, HasAtWork, RunsProtected, MeetsTask}
use Rattle.ame_protocol.specs.Engine.Simulates.{Simulates}
use Rattle.ame_protocol.specs.Engine.Alone.{is_of_protected, IsExhausted, RunsExclusively}
use Rattle.ame_protocol.proofs.Engine.MemoryLemmas.{memory-committed}
use Rattle.ame_protocol.proofs.Engine.CarryLemmas.{GoesOn, StaysBusy, sound-on, tries-on}
use Rattle.ame_protocol.proofs.Engine.PoolLemmas.{machines-stay, sides-stay, inside-same, found-machine, found-at, at-found}
use Rattle.ame_protocol.proofs.Engine.GrowthLemmas.{keeps-same}
use Rattle.ame_protocol.proofs.Engine.StepLemmas.{step, seat_within, few-later, task_here, task_else}
use Rattle.ame_protocol.proofs.Engine.AccessLemmas.{runs}
use Rattle.ame_protocol.proofs.Engine.TurnLemmas.{no-run}
use Rattle.ame_protocol.specs.Waits.Noted.{stuck_entry, has_noted}

-- the attempt of a member that is noted
abbrev pub noted_attempt : Attempt → Attempt
noted_attempt attempt = record attempt { logged = true }

-- A member at a false condition isn't at `unprotected`

pub failing-calm : (f : Focus) → is_false_condition f ≡ true → at_unprotected f ≡ false
failing-calm (Focus.AtValue v) e = refl
failing-calm (Focus.AtRedex Side.Unprotected redex) e = absurd (let clash : false ≡ true = e in cc)
failing-calm (Focus.AtRedex Side.Protected (Tree.Unprotected part)) e = absurd (let clash : false ≡ true = e in cc)
failing-calm (Focus.AtRedex Side.Protected _) e = refl

-- and neither did it when it began
pub began-calm : (term : Tree) (inputs : List Val) (n : ℕ) (p : LocalState) → local Side.Protected term inputs n ≡ Some p
    → at_unprotected (focus p.term) ≡ false
    → at_unprotected (focus term) ≡ false
began-calm term inputs n p ran calm = by (at_unprotected (focus term)) refl
  where
    clash : (m : ℕ) → local Side.Protected term inputs m ≡ Some p → at_unprotected (focus term) ≡ true → ⊥
    clash zero ran e =
        let both : ◌≡◌ {A = Option LocalState} (Some (begun_with term inputs)) (Some p) = ran in
        let same : begun_with term inputs ≡ p = cc in
        let its : true ≡ false = sym e ∙ ap (λ (q : LocalState). at_unprotected (focus q.term)) same ∙ calm in cc
    clash (suc k) ran e = let both : ◌≡◌ {A = Option LocalState} None (Some p) = sym (no-run (begun_with term inputs) k e) ∙ ran in cc

    by : (b : Bool) → at_unprotected (focus term) ≡ b → at_unprotected (focus term) ≡ false
    by true e = absurd (clash n ran e)
    by false e = e

module _ (parts : Parts) (s : Simulates parts) (seat : ℕ) (attempt : Attempt) (task : task_at parts.tasks seat ≡ Task.Running attempt)
    (left : parts.turns < parts.limits.turns)
    (n : ℕ) (p : LocalState) (place : HasUsed (run_in parts seat attempt.tried.number) n p)
    (valid : AreValid (heap_in parts) seat (run_in parts seat attempt.tried.number).reads) (fails : is_false_condition (focus p.term) ≡ true) where
  abbrev number : ℕ
  number = attempt.tried.number

  abbrev run : SeatRun
  run = run_in parts seat number

  abbrev entry : Entry
  entry = stuck_entry seat number n p

  abbrev locs : List ℕ
  locs = read_places (row_at parts.memory.rows seat).reads

  abbrev pool : Roster Tree
  pool = noted number locs parts.pool

  abbrev next : Task
  next = Task.Undoing (noted_attempt attempt) UndoReason.Noted

  abbrev tasks : List Task
  tasks = set parts.tasks seat next

  abbrev turns : ℕ
  turns = parts.turns + 1

  abbrev new : Parts
  new = has_noted seat attempt n p parts

  its-runs : RunsProtected parts s.types seat attempt
  its-runs = runs parts s seat attempt task

  -- The note is replayed

  term-there : at s.r.state.members number ≡ Some (term_at parts.pool number)
  term-there = s.stands.members number ∙ found-machine parts.pool number false its-runs.work.busy

  start-calm : at_unprotected (focus (term_at parts.pool number)) ≡ false
  start-calm = began-calm (term_at parts.pool number) run.inputs n p place.ran (failing-calm (focus p.term) fails)

  on_side : side_at number s.r.state ≡ Side.Protected
  on_side = ap (λ (o : Option Tree). side_told (has_such (λ term. at_unprotected (focus term)) o)) term-there ∙ ap side_told start-calm

  is-calm : IsCalm s.r
  is-calm = calm-replayed parts.program (whole_journal parts) s.r s.stands.replayed

  quiet : p.answer ≡ None
  quiet =
      (active_run s.r.state number run.start run.inputs term-there is-calm.idle start-calm n p place.ran
      (agrees (heap_in parts) seat s.r.state.store (memory-committed parts.memory) s.stands.store run.reads p valid (its-runs.owes.given n p place))).quiet

  tells : TellsRun s.r entry Side.Protected n p
  tells =
      told (heap_in parts) seat run s.r entry n p
      (memory-committed parts.memory) s.stands.store its-runs.owes.given valid place is-calm.idle on_side term-there refl (sym quiet)

  journal : whole_journal new ≡ whole_journal parts ++ entry ∷ []
  journal = sym (append_assoc parts.base parts.entries (entry ∷ []))

  replayed : replay parts.program (whole_journal new) ≡ Some s.r
  replayed =
      ap (replay parts.program) journal ∙ replay_from-one (begun_at parts.program) (whole_journal parts) entry
      ∙ ap (option_and_then (λ (r : Replayed). replay_entry r entry)) s.stands.replayed ∙ run-stuck s.r entry n p tells refl refl fails

  -- The member is noted

  found : IsFoundAfter number (option_map (noted_on locs)) parts.pool.members pool.members
  found = found_altered number (noted_on locs) (λ _. refl) parts.pool.members

  sides : (i : ℕ) → inside_of i pool ≡ inside_of i parts.pool
  sides = sides-stay number (noted_on locs) parts.pool.members pool.members found (λ _. refl) (λ _. refl)

  machines : (i : ℕ) → machine_of i pool ≡ machine_of i parts.pool
  machines = machines-stay number (noted_on locs) parts.pool.members pool.members found (λ _. refl) (λ _. refl)

  goes : GoesOn parts new
  goes = record { program = refl; signature = refl; limits = refl; more = entry ∷ []; journal = journal; turns = omega arith }

  at_seat : seat < length parts.tasks
  at_seat = seat_within parts.tasks seat attempt (ap attempt_of task)

  here : task_at tasks seat ≡ next
  here = task_here parts.tasks seat next at_seat

  its-own : (other i : ℕ) → (other ≡ seat → ⊥) → member_of (task_at parts.tasks other) ≡ Some i → i ≡ number → ⊥
  its-own other i apart e same = apart (s.apart other seat i e (ap member_of task ∙ ap Some (sym same)))

  stays : (i : ℕ) → (i ≡ number → ⊥) → StaysBusy parts new i
  stays i apart =
      let k = keeps-same parts.pool pool i (found.others i apart) in
      record { machine = k.machine; inside = k.inside; busy = k.busy }

  member-same : (k : ℕ) → member_of (task_at tasks k) ≡ member_of (task_at parts.tasks k)
  member-same k = by (which k seat)
    where
      by : (k ≡ seat) ⊎ ((k ≡ seat) → ⊥) → member_of (task_at tasks k) ≡ member_of (task_at parts.tasks k)
      by (inl same) =
          subst (λ (m : ℕ). member_of (task_at tasks m) ≡ member_of (task_at parts.tasks m)) (sym same)
          (ap member_of here ∙ sym (ap member_of task))
      by (inr apart) = ap member_of (task_else parts.tasks seat next k apart)

  its-member : (m : Member Tree) × (find number parts.pool.members ≡ Some m)
  its-member = let m = found-at parts.pool number (is_busy_as false) its-runs.work.busy in (m.0, m.1)

  work : HasAtWork new true (noted_attempt attempt)
  work = record {
    busy = at-found pool number (is_busy_as true) (noted_on locs its-member.0) (found.here ∙ ap (option_map (noted_on locs)) its-member.1) refl;
    sound = sound-on parts new goes attempt.tried its-runs.work.sound;
    few = let h = its-runs.work.few in few-steps h;
  }
    where
      few-steps : attempt.tried.steps ≤ parts.limits.slice * parts.turns → attempt.tried.steps ≤ parts.limits.slice * (parts.turns + 1)
      few-steps h = let e = mul-le-mul_left parts.limits.slice more in omega arith
        where
          more : parts.turns ≤ parts.turns + 1
          more = omega arith

  pub noted_stands : Simulates new
  noted_stands =
      step parts new s seat (record {
        r = s.r;
        types = s.types;
        on = goes;
        grows = λ m c e. e;
        stands = record {
          replayed = replayed;
          store = s.stands.store;
          members = λ i. s.stands.members i ∙ sym (machines i);
          inside = λ i. s.stands.inside i ∙ sym (inside-same parts.pool.members pool.members i (sides i));
          output = s.stands.output;
          next = s.stands.next;
        };
        typed = record { heap = s.typed.heap; now = s.typed.now; shared = s.typed.shared };
        consistent = s.consistent;
        framed = λ other apart. record { places = λ m. IsFramedAt.stays refl refl; longer = omega arith };
        rows = λ other apart. refl;
        tasks = task_else parts.tasks seat next;
        busy = λ other apart i has. stays i (its-own other i apart has);
        own =
            subst (MeetsTask new s.types seat) (sym here) (record {
              work = work;
              outside = sides number ∙ its-runs.outside;
              undos = its-runs.typed.undos;
            });
        apart = λ k other i e f. s.apart k other i (sym (member-same k) ∙ e) (sym (member-same other) ∙ f);
        bounded = record {
          turns = omega arith;
          numbers = λ m. few-later parts.turns turns (cell_at (heap_in parts) m) (omega arith) (s.bounded.numbers m);
          cells = let h = s.bounded.cells in omega arith;
          rows = s.bounded.rows;
          tasks = length-set parts.tasks seat next ∙ s.bounded.tasks;
        };
        sound = tries-on parts new goes parts.tried s.sound;
      })

-- A member that was rolled back as often as it may be runs alone still

module _ (parts : Parts) (s : Simulates parts) (a : RunsExclusively parts) (seat : ℕ) (attempt : Attempt) (task : task_at parts.tasks seat ≡ Task.Running attempt)
    (n : ℕ) (p : LocalState) where
  abbrev watched : List ℕ
  watched = read_places (row_at parts.memory.rows seat).reads

  abbrev later_pool : Roster Tree
  later_pool = noted attempt.tried.number watched parts.pool

  abbrev later : Parts
  later = has_noted seat attempt n p parts

  abbrev later_task : Task
  later_task = Task.Undoing (noted_attempt attempt) UndoReason.Noted

  found-later : IsFoundAfter attempt.tried.number (option_map (noted_on watched)) parts.pool.members later_pool.members
  found-later = found_altered attempt.tried.number (noted_on watched) (λ _. refl) parts.pool.members

  stands-there : task_at later.tasks seat ≡ later_task
  stands-there = task_here parts.tasks seat later_task (seat_within parts.tasks seat attempt (ap attempt_of task))

  -- who is noted has no rollbacks
  not-exhausted : (o : Option (Member Tree)) → IsSomeAnd (option_map (noted_on watched) o) (λ m. IsTrue (is_exhausted m)) → ⊥
  not-exhausted None h = h
  not-exhausted (Some m) h = let clash : false ≡ true = h in cc

  not-itself : (k : ℕ) (t : Attempt) → IsExhausted later k t → k ≡ seat → ⊥
  not-itself k t exhausted same =
      let both : ◌≡◌ {A = Option Attempt} (Some (noted_attempt attempt)) (Some t) =
      sym (ap attempt_of stands-there) ∙ ap (λ (m : ℕ). attempt_of (task_at later.tasks m)) (sym same) ∙ exhausted.has in
      let is : noted_attempt attempt ≡ t = cc in
      not-exhausted (find attempt.tried.number parts.pool.members)
      (subst (λ (o : Option (Member Tree)). IsSomeAnd o (λ m. IsTrue (is_exhausted m))) found-later.here
      (subst (λ (x : Attempt). IsAt is_exhausted x.tried.number later_pool) (sym is) exhausted.exhausted))

  was-exhausted : (k : ℕ) (t : Attempt) → IsExhausted later k t → IsExhausted parts k t
  was-exhausted k t exhausted =
      let apart = not-itself k t exhausted in
      let same = task_else parts.tasks seat later_task k apart in
      let has = sym (ap attempt_of same) ∙ exhausted.has in
      let other : t.tried.number ≡ attempt.tried.number → ⊥ =
      (λ e. apart (s.apart k seat t.tried.number (ap (option_map (λ (x : Attempt). x.tried.number)) has) (ap member_of task ∙ ap Some (sym e)))) in
      record {
        task = sym (ap is_of_protected same) ∙ exhausted.task;
        has = has;
        exhausted = subst (λ (o : Option (Member Tree)). IsSomeAnd o (λ m. IsTrue (is_exhausted m))) (found-later.others t.tried.number other) exhausted.exhausted;
      }

  pub noted-alone : RunsExclusively later
  noted-alone = record {
    alone = λ k other t exhausted e. a.alone k other t (was-exhausted k t exhausted) (by other e (which other seat));
    running =
        λ going k t exhausted.
        task_else parts.tasks seat later_task k (not-itself k t exhausted) ∙ a.running going k t (was-exhausted k t exhausted);
    valid = λ going k t exhausted. a.valid going k t (was-exhausted k t exhausted);
  }
    where
      by : (other : ℕ) → is_of_protected (task_at later.tasks other) ≡ true → (other ≡ seat) ⊎ ((other ≡ seat) → ⊥)
          → is_of_protected (task_at parts.tasks other) ≡ true
      by other e (inl same) = ap (λ (m : ℕ). is_of_protected (task_at parts.tasks m)) same ∙ ap is_of_protected task
      by other e (inr apart) = sym (ap is_of_protected (task_else parts.tasks seat later_task other apart)) ∙ e
