-- A seat begins a member.
use Rattle.std.proofs.Common.{◌≡◌, ℕ, ◌+◌, ◌<◌, Bool, true, false, List, ◌++◌, length, Option, Some, None, option_map, refl, sym, ap, ◌∙◌, subst, arith, All}
use Rattle.std.specs.Prelude.{◌≤◌, nat_lt, is_some, unwrap_or, slice_set, if◌then◌else◌}
use Rattle.std.proofs.Common.{inl}
use Rattle.std.proofs.lemmas.Bool.{ltb-false}
use Rattle.std.specs.Option.{ForSome}
use Rattle.ame_term.specs.Tree.{Val, Tree, unit_tree}
use Rattle.ame_pool.specs.declared.member.Member.{Member}
use Rattle.ame_pool.specs.Members.{find, is_ready}
use Rattle.ame_pool.specs.Roster.{Roster}
use Rattle.ame_pool.specs.Calls.{IsAt, begun, held, machine_of}
use Rattle.ame_pool.specs.Keeps.{is_inside_at}
use Rattle.ame_pool.specs.Begin.{oldest}
use Rattle.ame_pool.proofs.MemberLemmas.{find_passes, found_altered}
use Rattle.ame_rows.specs.MemoryView.{Log, no_log, row_at}
use Rattle.ame_machine.specs.MachineView.{MachineView}
use Rattle.ame_protocol.specs.declared.types.Attempt.{Attempt}
use Rattle.ame_protocol.specs.declared.types.Task.{Task}
use Rattle.ame_protocol.specs.declared.types.Tried.{Tried}
use Rattle.ame_protocol.specs.Engine.Parts.{Parts, task_at, term_at}
use Rattle.ame_protocol.specs.Engine.Tasks.{MeetsTask}
use Rattle.ame_protocol.specs.Engine.Events.{attempt_after, begun_task, has_begun, one_turn, with_task}
use Rattle.ame_protocol.proofs.Engine.StepLemmas.{task_here}
use Rattle.ame_engine.specs.Core.{Core}
use Rattle.ame_protocol.specs.Event.Causes.{HasCause, is_from_outside}
use Rattle.ame_protocol.specs.Event.Counting.{Counted, one_counted}
use Rattle.ame_protocol.specs.Engine.Shown.{shown_pool}
use Rattle.ame_protocol.specs.Event.Event.{Event}
use Rattle.ame_protocol.specs.Event.May.{May}
use Rattle.ame_engine.specs.Seen.{parts_of, term_shown, MakesEvent}
use Rattle.ame_engine.specs.Makes.{state_of, Makes}
use Rattle.ame_engine.proofs.MakesLemmas.{made-event}
use Rattle.ame_engine.specs.Whole.{resting_at, IsAtRest, IsSound}
use Rattle.ame_engine.specs.AtWork.{IsOn}
use Rattle.ame_engine.specs.Begins.{pick_by, pick_of, begun_by, HasBegun}
use Rattle.ame_engine.specs.declared.pick.Pick.{Pick}
use Rattle.ame_pool.specs.declared.oldest.Oldest.{Oldest}
use Rattle.ame_journal.specs.declared.entry.Entry.{Entry}
use Rattle.ame_machine.specs.Sound.{CanRun}
use Rattle.ame_protocol.proofs.Engine.ShownPoolLemmas.{machine-shown, held-shown}
use Rattle.ame_engine.proofs.MemberLemmas.{all_altered, inside-told, ready-machine, inside-same, ready-same}
use Rattle.ame_engine.proofs.WorkLemmas.{on-begun}
use Rattle.ame_engine.proofs.RunLemmas.{rest-runs}
use Rattle.ame_protocol.specs.declared.stop.Stop.{Stop}
use Rattle.ame_engine.specs.Stops.{stopped_by}
use Rattle.ame_protocol.proofs.Event.CauseLemmas.{empty-members, empty-oldest, fault-cause}
use Rattle.ame_engine.proofs.OldestLemmas.{oldest-shown}
use Rattle.ame_protocol.specs.Event.Bounds.{LeavesNoTry}
use Rattle.ame_protocol.proofs.Event.BoundLemmas.{idle-leaves_no_try}
use Rattle.ame_machine.specs.Meaning.{Meaning}
use Rattle.ame_engine.proofs.SoundLemmas.{sound-next}

module _ {C V M : Type 0} (meaning : Meaning C V M) where
  -- the plain parts, once a seat has begun a member that is inside or not, with this pool
  parts-with : ℕ → ℕ → Core C V M → Bool → Roster Tree → Parts
  parts-with seat number core inside pool =
      one_turn (with_task seat (begun_task inside (attempt_after number (core.base ++ core.entries))) (record (parts_of meaning core) { pool = pool }))

  pub begun-parts : (seat number : ℕ) (core : Core C V M)
      → parts_of meaning (begun_by seat number core) ≡ has_begun seat number (parts_of meaning core)
  unfolding parts-with
  begun-parts seat number core =
      let pool = shown_pool (term_shown meaning.stage core.code) core.pool in
      ap (parts-with seat number core (is_inside_at core.pool.members number)) (held-shown (term_shown meaning.stage core.code) number core.pool)
      ∙ ap (λ b. parts-with seat number core b (held number pool)) (sym (inside-same (term_shown meaning.stage core.code) number core.pool))

  module _ (core : Core C V M) (whole : IsSound meaning core) (seat number : ℕ)
      (within : seat < core.limits.seats) (idle : task_at core.tasks seat ≡ Task.Idle) (first : oldest core.pool ≡ Oldest.Member number)
      (ready : IsAt is_ready number core.pool) (left : core.turns < core.limits.turns) where
    pub begun-rest : All (IsAtRest meaning.is_machine meaning.stage core.code) (held number core.pool).members
    begun-rest = all_altered number begun (IsAtRest meaning.is_machine meaning.stage core.code)
        (λ m rests. record { machine = rests.machine; rests = rests.rests }) core.pool.members whole.members

    pub begun-makes : MakesEvent meaning (one_counted Counted.Begin) (has_begun seat number) core (begun_by seat number core)
    begun-makes = record { code = refl; parts = begun-parts seat number core; counted = refl; stop = refl }

    -- the machine of the member that begins
    module _ (held_machine : M) (found : machine_of number core.pool ≡ Some held_machine) where
      rest-by : (o : Option (Member M)) → find number core.pool.members ≡ o
          → meaning.stage core.code held_machine ≡ resting_at (meaning.stage core.code held_machine).term (is_inside_at core.pool.members number)
      rest-by None e = absurd (some-none (sym found ∙ ap (option_map (λ (m : Member M). m.machine)) e))
        where
          some-none : ◌≡◌ {A = Option M} (Some held_machine) None → ⊥
          some-none h = cc
      rest-by (Some m) e =
          let rests = (find_passes (IsAtRest meaning.is_machine meaning.stage core.code) number core.pool.members whole.members m e).rests in
          let same : m.machine ≡ held_machine = ap (λ (o : Option M). unwrap_or o held_machine) (sym (ap (option_map (λ (x : Member M). x.machine)) e) ∙ found) in
          let inside : is_inside_at core.pool.members number ≡ m.inside = inside-told core.pool.members number ∙ ap (λ (o : Option (Member M)). unwrap_or (option_map (λ (x : Member M). x.inside) o) false) e in
          subst (λ (b : Bool). meaning.stage core.code held_machine ≡ resting_at (meaning.stage core.code held_machine).term b) (sym inside)
          (subst (λ (x : M). meaning.stage core.code x ≡ resting_at (meaning.stage core.code x).term m.inside) same rests)

      same-machine : (o : Option (Member M)) → option_map (λ (m : Member M). m.machine) (option_map begun o) ≡ option_map (λ (m : Member M). m.machine) o
      same-machine None = refl
      same-machine (Some m) = refl

      begun-starts : term_at (shown_pool (term_shown meaning.stage core.code) (held number core.pool)) number ≡ (meaning.stage core.code held_machine).term
      begun-starts =
          ap (λ (o : Option Tree). unwrap_or o unit_tree)
          (machine-shown (term_shown meaning.stage core.code) number (held number core.pool)
          ∙ ap (option_map (term_shown meaning.stage core.code))
          (ap (option_map (λ (m : Member M). m.machine)) (found_altered number begun (λ m. refl) core.pool.members).here
          ∙ same-machine (find number core.pool.members) ∙ found))

      -- A copy of it is at the place of the seat's run.
      pub begun-on : (m : M) → meaning.stage core.code m ≡ meaning.stage core.code held_machine → meaning.is_machine core.code m
          → IsOn meaning (begun_by seat number core) seat m
      begun-on m same good = record {
        machine = good;
        stands = on-begun (parts_of meaning (begun_by seat number core)) seat (attempt_after number (core.base ++ core.entries))
            (is_inside_at core.pool.members number) (meaning.stage core.code held_machine).term (meaning.stage core.code m)
            (task_here core.tasks seat (begun_task (is_inside_at core.pool.members number) (attempt_after number (core.base ++ core.entries))) there)
            (same ∙ rest-by (find number core.pool.members) refl) begun-starts (ap (λ (notes : Log Val). notes.inputs) clear) refl;
      }
        where
          there : seat < length core.tasks
          there = let seats : length core.tasks ≡ core.limits.seats = whole.state.stands.bounded.tasks in omega (arith, seats, within)

          clear : row_at (parts_of meaning core).memory.rows seat ≡ no_log
          clear = subst (MeetsTask (parts_of meaning core) whole.state.stands.types seat) idle (whole.state.stands.seats seat)

      -- it rests
      pub begun-rests : (m : M) → meaning.stage core.code m ≡ meaning.stage core.code held_machine
          → meaning.stage core.code m ≡ resting_at (meaning.stage core.code m).term (meaning.stage core.code m).inside
      begun-rests m same =
          let is = same ∙ rest-by (find number core.pool.members) refl in
          is ∙ ap (λ (t : Tree). resting_at t (is_inside_at core.pool.members number)) (sym (ap (λ (x : MachineView). x.term) is))
          ∙ ap (resting_at (meaning.stage core.code m).term) (sym (ap (λ (x : MachineView). x.inside) is))

      -- and can run
      pub begun-runs : (m : M) → meaning.stage core.code m ≡ meaning.stage core.code held_machine → CanRun (meaning.stage core.code m)
      begun-runs m same =
          subst CanRun (sym (same ∙ rest-by (find number core.pool.members) refl))
          (rest-runs (parts_of meaning core) whole.state.stands number (meaning.stage core.code held_machine).term (is_inside_at core.pool.members number)
          (machine-shown (term_shown meaning.stage core.code) number core.pool ∙ ap (option_map (term_shown meaning.stage core.code)) found)
          (inside-same (term_shown meaning.stage core.code) number core.pool))

-- room isn't seen
module _ {C V M : Type 0} (meaning : Meaning C V M) where
  pub whole-roomy : (core : Core C V M) → IsSound meaning core → (tried : List Tried) → tried ≡ core.tried
      → IsSound meaning (record core { tried = tried })
  whole-roomy core whole tried e =
      subst (λ (tries : List Tried). IsSound meaning (record core { tried = tries })) (sym e) whole

module _ {C V M : Type 0} (meaning : Meaning C V M) (same : M → M → Type 0)
    (keeps : (code : C) (m n : M) → same m n → meaning.is_machine code m → meaning.is_machine code n)
    (shows : (code : C) (m n : M) → same m n → meaning.stage code m ≡ meaning.stage code n)
    (core now : Core C V M) (view : core ≡ now) (whole : IsSound meaning core) (seat number : ℕ)
    (within : seat < now.limits.seats) (idle : task_at now.tasks seat ≡ Task.Idle) (first : oldest now.pool ≡ Oldest.Member number)
    (ready : IsAt is_ready number now.pool) (left : now.turns < now.limits.turns)
    (task : Task) (inside : Bool) (attempt : Attempt) (base entries : List Entry) (pool : Roster M)
    (task_is : task ≡ begun_task inside attempt) (inside_is : inside ≡ is_inside_at core.pool.members number)
    (attempt_is : attempt ≡ record { tried = record { number = number; at = length (base ++ entries); steps = 0 }; logged = false })
    (base_is : base ≡ core.base) (entries_are : entries ≡ core.entries) (pool_is : pool ≡ held number core.pool)
    (tried : List Tried) (tried_is : tried ≡ core.tried) where
  abbrev after : Core C V M
  after = record core {
    tasks = slice_set core.tasks seat task;
    pool = pool;
    turns = core.turns + 1;
    counters = one_counted Counted.Begin core.counters;
    tried = tried;
  }

  attempt-after : List Entry → Attempt
  attempt-after all = record { tried = record { number = number; at = length all; steps = 0 }; logged = false }

  attempt-so : attempt ≡ attempt_after number (core.base ++ core.entries)
  unfolding attempt-after
  attempt-so = attempt_is ∙ ap (λ (xs : List Entry). attempt-after (xs ++ entries)) base_is ∙ ap (λ (xs : List Entry). attempt-after (core.base ++ xs)) entries_are

  task-so : task ≡ begun_task (is_inside_at core.pool.members number) (attempt_after number (core.base ++ core.entries))
  task-so = task_is ∙ ap (λ (b : Bool). begun_task b attempt) inside_is ∙ ap (begun_task (is_inside_at core.pool.members number)) attempt-so

  after-is : after ≡ begun_by seat number core
  after-is = λ i. record core {
    tasks = slice_set core.tasks seat (task-so i);
    pool = pool_is i;
    turns = core.turns + 1;
    counters = one_counted Counted.Begin core.counters;
    tried = tried_is i;
  }

  within' : seat < core.limits.seats
  within' = subst (λ (x : Core C V M). seat < x.limits.seats) (sym view) within

  idle' : task_at core.tasks seat ≡ Task.Idle
  idle' = subst (λ (x : Core C V M). task_at x.tasks seat ≡ Task.Idle) (sym view) idle

  first' : oldest core.pool ≡ Oldest.Member number
  first' = subst (λ (x : Core C V M). oldest x.pool ≡ Oldest.Member number) (sym view) first

  ready' : IsAt is_ready number core.pool
  ready' = subst (λ (x : Core C V M). IsAt is_ready number x.pool) (sym view) ready

  left' : core.turns < core.limits.turns
  left' = subst (λ (x : Core C V M). x.turns < x.limits.turns) (sym view) left

  -- so it may begin
  may-begin : now.stop ≡ None → May (Event.Begin seat number) (state_of meaning core)
  may-begin going = (
    record { going = subst (λ (x : Core C V M). x.stop ≡ None) (sym view) going; left = left' },
    record {
      idle = idle';
      there = within';
      first = oldest-shown (term_shown meaning.stage core.code) core.pool ∙ first';
      ready = ready-same (term_shown meaning.stage core.code) number core.pool ready';
    },
  )

  makes-begun : now.stop ≡ None → Makes meaning (Event.Begin seat number) now after
  makes-begun going = subst (λ (x : Core C V M). Makes meaning (Event.Begin seat number) x after) view
      (subst (Makes meaning (Event.Begin seat number) core) (sym after-is)
      (made-event meaning (one_counted Counted.Begin) (has_begun seat number) (Event.Begin seat number) core (begun_by seat number core) refl refl (may-begin going)
      (begun-makes meaning core whole seat number within' idle' first' ready' left')))

  pub whole-begun : now.stop ≡ None → IsSound meaning after
  whole-begun going =
      sound-next meaning core now after view whole (Event.Begin seat number) (makes-begun going) whole.memory
      (subst (λ (p : Roster M). All (IsAtRest meaning.is_machine meaning.stage core.code) p.members) (sym pool_is)
      (begun-rest meaning core whole seat number within' idle' first' ready' left')) whole.text

  module _ (m : M) (copied : ForSome (machine_of number core.pool) (λ resting. same resting m)) where
    resting : (x : M) × (machine_of number core.pool ≡ Some x)
    resting = ready-machine number core.pool ready'

    good : meaning.is_machine core.code m
    good = keeps core.code resting.0 m (copied resting.0 resting.1) (good-rests (find number core.pool.members) refl)
      where
        good-rests : (o : Option (Member M)) → find number core.pool.members ≡ o → meaning.is_machine core.code resting.0
        good-rests None e = absurd (none-some (sym (ap (option_map (λ (x : Member M). x.machine)) e) ∙ resting.1))
          where
            none-some : ◌≡◌ {A = Option M} None (Some resting.0) → ⊥
            none-some h = cc
        good-rests (Some x) e =
            let same-one : x.machine ≡ resting.0 = ap (λ (o : Option M). unwrap_or o resting.0) (sym (ap (option_map (λ (y : Member M). y.machine)) e) ∙ resting.1) in
            subst (meaning.is_machine core.code) same-one
            (find_passes (IsAtRest meaning.is_machine meaning.stage core.code) number core.pool.members whole.members x e).machine

    on-after : IsOn meaning after seat m
    on-after = subst (λ (x : Core C V M). IsOn meaning x seat m) (sym after-is)
        (begun-on meaning core whole seat number within' idle' first' ready' left'
        resting.0 resting.1 m (sym (shows core.code resting.0 m (copied resting.0 resting.1))) good)

    rests-after : meaning.stage core.code m ≡ resting_at (meaning.stage core.code m).term (meaning.stage core.code m).inside
    rests-after = begun-rests meaning core whole seat number within' idle' first' ready' left'
        resting.0 resting.1 m (sym (shows core.code resting.0 m (copied resting.0 resting.1)))

    runs-after : CanRun (meaning.stage core.code m)
    runs-after = begun-runs meaning core whole seat number within' idle' first' ready' left'
        resting.0 resting.1 m (sym (shows core.code resting.0 m (copied resting.0 resting.1)))

    pub has-begun-after : now.stop ≡ None → HasBegun meaning seat number now after m
    has-begun-after going = record { event = makes-begun going; on = on-after; rests = rests-after; runs = runs-after }

-- A seat meets the cause of a stop

abbrev is-spent : {C V M : Type 0} → Core C V M → Bool
is-spent core = if nat_lt core.turns core.limits.turns then false else true

pub none-met : {C V M : Type 0} (core : Core C V M) (pick : Pick) → pick_of core ≡ pick → (Pick.Stopped ≡ pick → ⊥) → core.stop ≡ None
none-met core pick e other = by core.stop refl
  where
    by : (o : Option Stop) → core.stop ≡ o → core.stop ≡ None
    by None is = is
    by (Some why) is =
        absurd (other
        (sym (ap (λ (o : Option Stop). if is_some o then Pick.Stopped else pick_by (if nat_lt core.turns core.limits.turns then false else true) (oldest core.pool)) is) ∙ e))

met-by : {C V M : Type 0} (core : Core C V M) (pick : Pick) → pick_of core ≡ pick → core.stop ≡ None
    → pick_by (if nat_lt core.turns core.limits.turns then false else true) (oldest core.pool) ≡ pick
met-by core pick e none =
    sym (ap (λ (o : Option Stop). if is_some o then Pick.Stopped else pick_by (if nat_lt core.turns core.limits.turns then false else true) (oldest core.pool)) none) ∙ e

finished-empty : (spent : Bool) (o : Oldest) → pick_by spent o ≡ Pick.Finished → o ≡ Oldest.Empty
finished-empty spent Oldest.Empty e = refl
finished-empty spent Oldest.Parked e = absurd (let clash : Pick.Blocked ≡ Pick.Finished = e in cc)
finished-empty true Oldest.Wait e = absurd (let clash : Pick.Spent ≡ Pick.Finished = e in cc)
finished-empty false Oldest.Wait e = absurd (let clash : Pick.Idle ≡ Pick.Finished = e in cc)
finished-empty true (Oldest.Member k) e = absurd (let clash : Pick.Spent ≡ Pick.Finished = e in cc)
finished-empty false (Oldest.Member k) e = absurd (let clash : Pick.Member k ≡ Pick.Finished = e in cc)

blocked-parked : (spent : Bool) (o : Oldest) → pick_by spent o ≡ Pick.Blocked → o ≡ Oldest.Parked
blocked-parked spent Oldest.Parked e = refl
blocked-parked spent Oldest.Empty e = absurd (let clash : Pick.Finished ≡ Pick.Blocked = e in cc)
blocked-parked true Oldest.Wait e = absurd (let clash : Pick.Spent ≡ Pick.Blocked = e in cc)
blocked-parked false Oldest.Wait e = absurd (let clash : Pick.Idle ≡ Pick.Blocked = e in cc)
blocked-parked true (Oldest.Member k) e = absurd (let clash : Pick.Spent ≡ Pick.Blocked = e in cc)
blocked-parked false (Oldest.Member k) e = absurd (let clash : Pick.Member k ≡ Pick.Blocked = e in cc)

spent-by : (spent : Bool) (o : Oldest) → pick_by spent o ≡ Pick.Spent → (spent ≡ true) × (o ≡ Oldest.Empty → ⊥)
spent-by spent Oldest.Empty e = absurd (let clash : Pick.Finished ≡ Pick.Spent = e in cc)
spent-by spent Oldest.Parked e = absurd (let clash : Pick.Blocked ≡ Pick.Spent = e in cc)
spent-by true Oldest.Wait e = (refl, λ h. let clash : Oldest.Wait ≡ Oldest.Empty = h in cc)
spent-by false Oldest.Wait e = absurd (let clash : Pick.Idle ≡ Pick.Spent = e in cc)
spent-by true (Oldest.Member k) e = (refl, λ h. let clash : Oldest.Member k ≡ Oldest.Empty = h in cc)
spent-by false (Oldest.Member k) e = absurd (let clash : Pick.Member k ≡ Pick.Spent = e in cc)

used-up : (turns limit : ℕ) → (if nat_lt turns limit then false else true) ≡ true → limit ≤ turns
used-up turns limit e = by (nat_lt turns limit) refl e
  where
    by : (b : Bool) → nat_lt turns limit ≡ b → (if b then false else true) ≡ true → limit ≤ turns
    by true is h = absurd (let clash : false ≡ true = h in cc)
    by false is h = ltb-false turns limit is

module _ {C V M : Type 0} (meaning : Meaning C V M) (core now : Core C V M) (view : core ≡ now)
    (whole : IsSound meaning core) where
  abbrev kept : Stop → Core C V M → Type 0
  kept why x = HasCause (Some why) x.certificates (parts_of meaning (stopped_by why x))

  none-kept : core.stop ≡ None → HasCause None core.certificates (parts_of meaning core)
  none-kept none = subst (λ (o : Option Stop). HasCause o core.certificates (parts_of meaning core)) none whole.state.caused

  oldest-is : (o : Oldest) → oldest core.pool ≡ o → oldest (parts_of meaning core).pool ≡ o
  oldest-is o e = oldest-shown (term_shown meaning.stage core.code) core.pool ∙ e

  pub finished-cause : pick_of now ≡ Pick.Finished → kept Stop.Finished now
  finished-cause e = subst (λ (x : Core C V M). kept Stop.Finished x) view (from (subst (λ (x : Core C V M). pick_of x ≡ Pick.Finished) (sym view) e))
    where
      from : pick_of core ≡ Pick.Finished → kept Stop.Finished core
      from h =
          let none = none-met core Pick.Finished h (λ c. cc) in
          let given = none-kept none in record {
            cause = empty-members (parts_of meaning core).pool (oldest-is Oldest.Empty (finished-empty (is-spent core) (oldest core.pool) (met-by core Pick.Finished h none)));
            told = given.told;
            ends = given.ends;
          }

  pub spent-cause : pick_of now ≡ Pick.Spent → kept Stop.Spent now
  spent-cause e = subst (λ (x : Core C V M). kept Stop.Spent x) view (from (subst (λ (x : Core C V M). pick_of x ≡ Pick.Spent) (sym view) e))
    where
      from : pick_of core ≡ Pick.Spent → kept Stop.Spent core
      from h =
          let none = none-met core Pick.Spent h (λ c. cc) in
          let given = none-kept none in
          let is = spent-by (is-spent core) (oldest core.pool) (met-by core Pick.Spent h none) in
          let enough = used-up core.turns core.limits.turns is.0 in
          let most : core.turns ≤ core.limits.turns = whole.state.stands.bounded.turns in record {
            cause = record {
              turns = omega (arith, enough, most);
              left = λ empty. is.1 (sym (oldest-shown (term_shown meaning.stage core.code) core.pool) ∙ empty-oldest (parts_of meaning core).pool empty);
            };
            told = given.told;
            ends = inl given.ends;
          }

  pub outside-cause : (why : Stop) → is_from_outside why ≡ true → now.stop ≡ None → kept why now
  outside-cause why e none =
      subst (λ (x : Core C V M). kept why x) view
      (fault-cause why e (parts_of meaning core) (parts_of meaning (stopped_by why core))
      core.certificates (none-kept (subst (λ (x : Core C V M). x.stop ≡ None) (sym view) none)) refl)

  -- If a seat is idle, and it is the only one, no member is at work.
  pub idle-leaves : (seat : ℕ) → seat < now.limits.seats → task_at now.tasks seat ≡ Task.Idle
      → LeavesNoTry Stop.Spent (parts_of meaning now)
  idle-leaves seat within idle =
      subst (λ (x : Core C V M). seat < x.limits.seats → task_at x.tasks seat ≡ Task.Idle → LeavesNoTry Stop.Spent (parts_of meaning x)) view
      (λ there none. idle-leaves_no_try (parts_of meaning core) whole.state.stands seat there none) within idle

  pub parked-met : pick_of now ≡ Pick.Blocked → oldest now.pool ≡ Oldest.Parked
  parked-met e = blocked-parked (is-spent now) (oldest now.pool) (met-by now Pick.Blocked e (none-met now Pick.Blocked e (λ c. cc)))

  pub blocked-going : pick_of now ≡ Pick.Blocked → now.stop ≡ None
  blocked-going e = none-met now Pick.Blocked e (λ c. cc)
