-- A visit that ends with a call of a device, or that a device refused.
use Rattle.std.proofs.Common.{◌≡◌, ℕ, ◌+◌, ◌^◌, ◌<◌, ◌≤◌, true, false, List, [], ◌∷◌, ◌++◌, length, All, Option, Some, None, Ok, refl, sym, ap, ◌∙◌, subst, append-nil, arith}
use Rattle.std.specs.Prelude.{ℤ, slice_set, unwrap_or}
use Rattle.ame_io.specs.Lines.{lines}
use Rattle.ame_term.specs.Tree.{Val, Tree}
use Rattle.ame_term.specs.Frame.{Side, side_told}
use Rattle.ame_term.specs.Context.{Focus}
use Rattle.ame_term.specs.Act.{Act}
use Rattle.ame_device.specs.declared.told.Told.{Told}
use Rattle.ame_device.specs.Calls.{CallsOne}
use Rattle.ame_journal.specs.declared.entry.Entry.{Entry}
use Rattle.ame_journal.specs.Replayed.{Replayed}
use Rattle.ame_machine.specs.Run.Local.{LocalState}
use Rattle.ame_pool.specs.Members.{is_busy}
use Rattle.ame_pool.specs.Roster.{Roster}
use Rattle.ame_pool.specs.Calls.{IsAt, is_running, at_home, home, exchanged, with_room}
use Rattle.ame_protocol.specs.Row.SeatRun.{IsAtAct}
use Rattle.ame_machine.specs.declared.wants.Wants.{Wants}
use Rattle.ame_machine.specs.declared.wants.Wants.TheVariants as wants
use Rattle.ame_machine.specs.MachineView.{MachineView, place_shown, with_answer}
use Rattle.ame_machine.specs.Need.{Need, need_of, need_told}
use Rattle.ame_machine.specs.Move.{after_input, fed_stage}
use Rattle.ame_machine.specs.Comes.{HasNextAct}
use Rattle.ame_machine.specs.Sound.{IsSoundStage}
use Rattle.ame_machine.specs.Acting.{replaced_by}
use Rattle.ame_machine.proofs.NeedLemmas.{comes_as}
use Rattle.ame_machine.proofs.FeedLemmas.{fed-answer}
use Rattle.ame_protocol.specs.declared.types.Attempt.{Attempt}
use Rattle.ame_protocol.specs.declared.types.UndoReason.{UndoReason}
use Rattle.ame_protocol.specs.declared.types.Task.{Task}
use Rattle.ame_protocol.specs.Engine.Parts.{Parts, task_at, term_at, working}
use Rattle.ame_protocol.specs.Engine.Shown.{shown_pool}
use Rattle.ame_protocol.specs.Engine.Tasks.{Visits}
use Rattle.ame_protocol.specs.Engine.Events.{with_newcomers}
use Rattle.ame_protocol.proofs.Engine.ShownPoolLemmas.{home-shown}
use Rattle.ame_protocol.specs.Visits.Visit.{StepsTo, free_entry, has_been_refused}
use Rattle.ame_protocol.proofs.Visits.PlaceLemmas.{visits, alone, calm, term-there, is-inside, call-met}
use Rattle.ame_protocol.specs.Event.Faults.{ComesToCall, LeadsToCall}
use Rattle.ame_engine.specs.declared.engine.free.change.CellChange.TheVariants as changes
use Rattle.ame_protocol.specs.declared.stop.Stop.{Stop}
use Rattle.ame_engine.specs.Core.{Core}
use Rattle.ame_protocol.specs.Event.Counting.{Counted, one_counted}
use Rattle.ame_protocol.specs.Event.Event.{Event}
use Rattle.ame_engine.specs.Seen.{parts_of, term_shown}
use Rattle.ame_engine.specs.Makes.{Makes, MakesAt}
use Rattle.ame_engine.proofs.MakesLemmas.{made-last, visited-made}
use Rattle.ame_engine.specs.Whole.{IsAtRest, IsSound}
use Rattle.ame_engine.specs.AtWork.{IsOnSeat, IsOn}
use Rattle.ame_engine.specs.Visiting.{IsVisiting, VisitsTo, IsVisitTo, SettlesThere, HasComeHome, visits_at}
use Rattle.ame_protocol.proofs.Event.FaultLemmas.{alone-run}
use Rattle.ame_engine.proofs.MemberLemmas.{all_altered}
use Rattle.ame_engine.proofs.CrewLemmas.{busy-told}
use Rattle.ame_engine.proofs.UndoingLemmas.{busy-same}
use Rattle.ame_engine.proofs.VisitPlaceLemmas.{visits-as, visit-steps, visit-is, visit-settles}
use Rattle.ame_engine.proofs.VisitEndLemmas.{room-stays, whole-visited, makes-visited}
use Rattle.ame_engine.proofs.VisitPlaceLemmas.{visit-grows}
use Rattle.ame_machine.specs.Meaning.{Meaning}
use Rattle.ame_engine.proofs.SoundLemmas.{sound-next}

module _ {C V M : Type 0} (meaning : Meaning C V M)
    (core now : Core C V M) (view : core ≡ now) (whole : IsSound meaning core) (seat : ℕ) (attempt : Attempt)
    (task-now : task_at now.tasks seat ≡ Task.Free attempt) (left : now.turns < now.limits.turns) where
  abbrev parts : Parts
  parts = parts_of meaning core

  abbrev number : ℕ
  number = attempt.tried.number

  is : task_at core.tasks seat ≡ Task.Free attempt
  is = subst (λ (x : Core C V M). task_at x.tasks seat ≡ Task.Free attempt) (sym view) task-now

  left' : core.turns < core.limits.turns
  left' = subst (λ (x : Core C V M). x.turns < x.limits.turns) (sym view) left

  its-visit : Visits parts whole.state.stands.types seat attempt
  its-visit = visits parts whole.state.stands seat attempt is

  -- A device refused

  pub refuse-running : IsAt is_running number core.pool
  refuse-running = busy-same (term_shown meaning.stage core.code) UndoReason.Stopped number core.pool its-visit.work.busy

  module _ (device : ℕ) (pool : Roster M) (pool_is : pool ≡ home number false core.pool) where
    abbrev after-refused : Core C V M
    after-refused = record core {
      tasks = slice_set core.tasks seat Task.Idle;
      pool = pool;
      turns = core.turns + 1;
      counters = one_counted Counted.Free core.counters;
      stop = Some (Stop.DeviceFault device);
    }

    parts-with : Roster Tree → Parts
    parts-with p = record parts {
      tasks = slice_set core.tasks seat Task.Idle;
      pool = p;
      turns = core.turns + 1;
      stopped = true;
    }

    refused-parts : parts_of meaning after-refused ≡ has_been_refused seat number parts
    unfolding parts-with
    refused-parts = ap parts-with (ap (shown_pool (term_shown meaning.stage core.code)) pool_is ∙ home-shown (term_shown meaning.stage core.code) number false core.pool)

    pub makes-refused : now.stop ≡ None → LeadsToCall (parts_of meaning now) device → Makes meaning (Event.Refuse seat attempt device) now after-refused
    makes-refused going leads =
        subst (λ (x : Core C V M). Makes meaning (Event.Refuse seat attempt device) x after-refused) view
        (made-last meaning (Stop.DeviceFault device) (one_counted Counted.Free) (has_been_refused seat number) (Event.Refuse seat attempt device) core after-refused refl refl (
          record { going = subst (λ (x : Core C V M). x.stop ≡ None) (sym view) going; left = left' },
          is,
          subst (λ (x : Core C V M). LeadsToCall (parts_of meaning x) device) (sym view) leads,
        ) (record { code = refl; parts = refused-parts; counted = refl; stop = refl }))

    pub whole-refused : now.stop ≡ None → LeadsToCall (parts_of meaning now) device
        → IsSound meaning after-refused
    whole-refused going leads =
        sound-next meaning core now after-refused view whole (Event.Refuse seat attempt device) (makes-refused going leads) whole.memory
        (subst (λ (p : Roster M). All (IsAtRest meaning.is_machine meaning.stage core.code) p.members) (sym pool_is)
        (all_altered number (at_home false) (IsAtRest meaning.is_machine meaning.stage core.code) (λ m rests. record { machine = rests.machine; rests = rests.rests })
        core.pool.members whole.members)) whole.text

  -- A device is called

  module _ (m : M) (on-now : IsOn meaning now seat m) (visiting : IsVisiting (meaning.stage now.code m))
      (sound : IsSoundStage (meaning.stage now.code m)) (device : ℕ) (argument : ℤ) (wants-now : (meaning.stage now.code m).want ≡ Some (wants.Device device argument)) where
    abbrev s : MachineView
    s = meaning.stage core.code m

    on : IsOnSeat parts seat s
    on = subst (λ (x : Core C V M). IsOnSeat (parts_of meaning x) seat (meaning.stage x.code m)) (sym view) on-now.stands

    visits-here : IsVisiting s
    visits-here = subst (λ (x : Core C V M). IsVisiting (meaning.stage x.code m)) (sym view) visiting

    sound' : IsSoundStage s
    sound' = subst (λ (x : Core C V M). IsSoundStage (meaning.stage x.code m)) (sym view) sound

    wants-it : s.want ≡ Some (wants.Device device argument)
    wants-it = subst (λ (x : Core C V M). (meaning.stage x.code m).want ≡ Some (wants.Device device argument)) (sym view) wants-now

    one-attempt : on.attempt ≡ attempt
    one-attempt = ap (λ (t : Task). unwrap_or (working t) attempt) (sym (visits-as parts seat s on visits-here.inside) ∙ is)

    one-number : on.attempt.tried.number ≡ number
    one-number = ap (λ (a : Attempt). a.tried.number) one-attempt

    steps : StepsTo parts number s.steps (place_shown s)
    steps = subst (λ (n : ℕ). StepsTo parts n s.steps (place_shown s)) one-number (visit-steps parts whole.state.stands seat s on visits-here.inside)

    need-there : need_told (wants.Device device argument) ≡ need_of s
    need-there = sound'.told (wants.Device device argument) wants-it

    next-act : HasNextAct s (Act.Calls device argument)
    next-act = (comes_as s (Need.Device device argument) need-there).1

    stands-at : IsAtAct Side.Unprotected (Act.Calls device argument) (place_shown s)
    stands-at = record {
      redex = next-act.0;
      stands = next-act.1 ∙ ap (λ (z : Side). Focus.AtRedex z next-act.0) (ap side_told visits-here.inside);
      acts = next-act.2;
    }

    device-there : device < (meaning.signature core.code).devices
    device-there = call-met parts whole.state.stands seat attempt is s.steps (place_shown s) steps device argument stands-at

    pub call-within : (count : ℕ) → (meaning.signature now.code).devices ≤ count → device < count
    call-within count enough =
        let there : device < (meaning.signature now.code).devices = subst (λ (x : Core C V M). device < (meaning.signature x.code).devices) view device-there in omega (arith, there, enough)

    pub call-steps : (begun : Entry) → begun ≡ free_entry seat number s.steps (place_shown s) → (meaning.stage now.code m).steps + 1 < 2 ^ 64 → begun.steps + 1 < 2 ^ 64
    call-steps begun e few =
        let same : begun.steps ≡ s.steps = ap (λ (x : Entry). x.steps) e in
        let here : s.steps + 1 < 2 ^ 64 = subst (λ (x : Core C V M). (meaning.stage x.code m).steps + 1 < 2 ^ 64) (sym view) few in omega (arith, same, here)

    -- the member comes to the call by the steps that it made
    comes-here : ComesToCall whole.state.stands.r device
    comes-here =
        let went = alone-run whole.state.stands.r.state number (term_at parts.pool number) (calm parts whole.state.stands seat attempt is).idle
        (term-there parts whole.state.stands seat attempt is) s.steps (place_shown s) steps in
        record {
          number = number;
          inside = is-inside parts whole.state.stands seat attempt is;
          steps = s.steps;
          reached = went.reached;
          made = went.made;
          term = s.term;
          member = went.member;
          redex = stands-at.redex;
          stands = stands-at.stands;
          argument = argument;
          calls = stands-at.acts;
        }

    pub call-led : (entries : List Entry) → entries ≡ core.entries → LeadsToCall (parts_of meaning (record core { entries = entries })) device
    call-led entries are =
        subst (λ (es : List Entry). LeadsToCall (parts_of meaning (record core { entries = es })) device) (sym are)
        (λ r there.
        let same : whole.state.stands.r ≡ r = ap (λ (o : Option Replayed). unwrap_or o r) (sym whole.state.stands.stands.replayed ∙ there) in
        subst (λ (x : Replayed). ComesToCall x device) same comes-here)

    bare : (place_shown s).prints ≡ []
    bare = ap (λ (p : LocalState). p.prints) (alone (term_at parts.pool number) s.steps (place_shown s) steps)

    no-spawns : s.spawns ≡ []
    no-spawns = ap (λ (p : LocalState). p.spawns) (alone (term_at parts.pool number) s.steps (place_shown s) steps)

    pub call-busy : IsAt is_busy number core.pool
    call-busy = busy-told (term_shown meaning.stage core.code) number core.pool its-visit.work.busy

    -- and answers
    module _ (answer : ℤ) (n : M) (machine : meaning.is_machine core.code n) (fed : after_input s.want (Val.Int answer) s ≡ Some (meaning.stage core.code n))
        (before after : List Told) (called : CallsOne before device argument (Ok answer) after) where
      fed' : fed_stage (Val.Int answer) s ≡ Some (meaning.stage core.code n)
      fed' = ap (λ (o : Option Wants). after_input o (Val.Int answer) s) (sym wants-it) ∙ fed

      pub visits-called : VisitsTo s parts.memory before (Some answer) (meaning.stage core.code n) parts.memory after
      visits-called = VisitsTo.calls device argument answer (meaning.stage core.code n) after wants-it called fed'

      visit-called : IsVisitTo parts number (Some answer) (meaning.stage core.code n) parts.memory
      visit-called =
          subst (λ (k : ℕ). IsVisitTo parts k (Some answer) (meaning.stage core.code n) parts.memory) one-number
          (visit-is parts whole.state.stands seat s on visits-here.inside sound' visits-here before (Some answer) (meaning.stage core.code n) parts.memory after visits-called)

      settles-called : SettlesThere (meaning.stage core.code n)
      settles-called =
          visit-settles parts whole.state.stands seat s on visits-here.inside sound' visits-here before (Some answer) (meaning.stage core.code n) parts.memory after visits-called

      stage-is : meaning.stage core.code n ≡ replaced_by (Tree.Held (Val.Int answer)) s
      stage-is =
          ap (λ (o : Option MachineView). unwrap_or o (meaning.stage core.code n)) (sym fed' ∙ fed-answer V s (wants.Device device argument) answer need-there refl)

      low-called : attempt.tried.steps ≤ (meaning.stage core.code n).steps
      low-called =
          let since : s.steps ≡ s.since + attempt.tried.steps = subst (λ (a : Attempt). s.steps ≡ s.since + a.tried.steps) one-attempt on.since in
          let grows = visit-grows s parts.memory before (Some answer) (meaning.stage core.code n) parts.memory after visits-called in omega (arith, since, grows)

      none-printed : (meaning.stage core.code n).prints ≡ []
      none-printed = ap (λ (x : MachineView). x.prints) stage-is ∙ bare

      none-made : (meaning.stage core.code n).spawns ≡ []
      none-made = ap (λ (x : MachineView). x.spawns) stage-is ∙ no-spawns

      with-spawns : List Tree → MachineView
      with-spawns xs = record (meaning.stage core.code n) { spawns = xs }

      keeps-stage : meaning.stage core.code n ≡ record (meaning.stage core.code n) { spawns = [] }
      unfolding with-spawns
      keeps-stage = ap with-spawns none-made

      module _ (begun entry : Entry) (begun_is : begun ≡ free_entry seat number s.steps (place_shown s))
          (entry_is : entry ≡ record begun { steps = begun.steps + 1; answer = Some answer })
          (entries old-entries : List Entry) (old_is : old-entries ≡ core.entries) (pushes : entries ≡ old-entries ++ entry ∷ [])
          (final : Roster M)
          (sends : shown_pool (term_shown meaning.stage core.code) final
          ≡ exchanged number (meaning.stage core.code n).term (meaning.stage core.code n).inside (shown_pool (term_shown meaning.stage core.code) core.pool))
          (send-rests : meaning.is_machine core.code n → SettlesThere (meaning.stage core.code n) → All (IsAtRest meaning.is_machine meaning.stage core.code) core.pool.members
          → All (IsAtRest meaning.is_machine meaning.stage core.code) final.members) where
        entry-so : entry ≡ free_entry seat number (meaning.stage core.code n).steps (with_answer (Some answer) (place_shown (meaning.stage core.code n)))
        entry-so =
            entry_is ∙ ap (λ (e : Entry). record e { steps = e.steps + 1; answer = Some answer }) begun_is
            ∙ sym (ap (λ (x : MachineView). free_entry seat number x.steps (with_answer (Some answer) (place_shown x))) stage-is)

        abbrev after-called : Core C V M
        after-called = record core {
          entries = entries;
          tasks = slice_set core.tasks seat Task.Idle;
          pool = final;
          turns = core.turns + 1;
          counters = one_counted Counted.Free core.counters;
        }

        joined-same : shown_pool (term_shown meaning.stage core.code) core.pool
            ≡ with_newcomers core.next (meaning.stage core.code n).spawns (shown_pool (term_shown meaning.stage core.code) (with_room 0 core.pool))
        joined-same =
            sym (ap (λ (xs : List Tree). with_newcomers core.next xs (shown_pool (term_shown meaning.stage core.code) (with_room 0 core.pool))) none-made
            ∙ ap (shown_pool (term_shown meaning.stage core.code)) (room-stays core.pool 0 [] refl refl))

        pub whole-called : now.stop ≡ None → IsSound meaning after-called
        whole-called going =
            whole-visited meaning core core refl whole seat attempt is left' n (Some answer) changes.Stays visit-called
            0 (sym (ap (λ (xs : List Tree). length xs) none-made)) (with_room 0 core.pool) refl core.pool joined-same n final keeps-stage sends machine settles-called
            (λ h. h) (λ h all. all) send-rests core.memory refl tt
            core.output core.output [] (sym none-printed) refl (sym (append-nil core.output)) core.text core.text [] (ap (λ (ns : List ℤ). lines ns) (sym none-printed)) refl (sym (append-nil core.text))
            old-entries entries entry entry-so old_is pushes core.next (omega arith)
            (subst (λ (x : Core C V M). x.stop ≡ None) (sym view) going) low-called

        makes-called : now.stop ≡ None → MakesAt meaning (meaning.stage core.code n) (Some answer) (visits_at seat attempt (meaning.stage core.code n) parts.memory)
            core after-called
        makes-called going =
            makes-visited meaning core core refl whole seat attempt is left' n (Some answer) changes.Stays visit-called
            0 (sym (ap (λ (xs : List Tree). length xs) none-made)) (with_room 0 core.pool) refl core.pool joined-same n final keeps-stage sends machine settles-called
            (λ h. h) (λ h all. all) send-rests core.memory refl tt
            core.output core.output [] (sym none-printed) refl (sym (append-nil core.output)) core.text core.text [] (ap (λ (ns : List ℤ). lines ns) (sym none-printed)) refl (sym (append-nil core.text))
            old-entries entries entry entry-so old_is pushes core.next (omega arith)
            (subst (λ (x : Core C V M). x.stop ≡ None) (sym view) going) low-called

        pub home-called : now.stop ≡ None → HasComeHome meaning seat number (meaning.stage now.code m) before after now after-called
        home-called going =
            subst (λ (x : Core C V M). HasComeHome meaning seat number (meaning.stage x.code m) before after x after-called) view
            (record {
              answer = Some answer;
              comes = meaning.stage core.code n;
              memory = parts.memory;
              visits = visits-called;
              visit = visit-called;
              event = visited-made meaning core after-called seat attempt (Some answer) (meaning.stage core.code n) parts.memory (makes-called going);
              makes = λ a e.
                  subst (λ (x : Attempt). MakesAt meaning (meaning.stage core.code n) (Some answer) (visits_at seat x (meaning.stage core.code n) parts.memory) core after-called)
                  (ap (λ (t : Task). unwrap_or (working t) attempt) (sym is ∙ e)) (makes-called going);
            })
