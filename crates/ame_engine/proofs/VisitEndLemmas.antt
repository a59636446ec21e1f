-- A visit ends.
use Rattle.std.proofs.Common.{◌≡◌, ℕ, ◌+◌, ◌<◌, ◌≤◌, Bool, false, List, [], ◌∷◌, ◌++◌, length, All, Option, Some, None, refl, sym, ap, ◌∙◌, subst, arith}
use Rattle.std.specs.Prelude.{ℤ, slice_set, max}
use Rattle.ame_io.specs.Lines.{lines}
use Rattle.ame_term.specs.Tree.{Val, Tree}
use Rattle.ame_journal.specs.declared.entry.Entry.{Entry}
use Rattle.ame_journal.specs.JournalView.{IsFit}
use Rattle.ame_machine.specs.Run.Local.{LocalState}
use Rattle.ame_pool.specs.declared.member.Member.{Member}
use Rattle.ame_pool.specs.Members.{find, is_busy}
use Rattle.ame_pool.specs.Roster.{Roster}
use Rattle.ame_pool.specs.Calls.{IsAt, renewed, exchanged, with_room}
use Rattle.ame_rows.specs.MemoryView.{MemoryView}
use Rattle.ame_machine.specs.MachineView.{MachineView, starting_at, place_shown, with_answer}
use Rattle.ame_machine.specs.Move.{settled_stage}
use Rattle.ame_protocol.specs.declared.types.Attempt.{Attempt}
use Rattle.ame_protocol.specs.declared.types.Task.{Task}
use Rattle.ame_protocol.specs.Engine.Parts.{Parts, task_at, attempt_of, member_of}
use Rattle.ame_protocol.specs.Engine.Shown.{shown_memory, shown_pool}
use Rattle.ame_protocol.specs.Engine.Tasks.{is_busy_as, Visits}
use Rattle.ame_protocol.specs.Engine.Events.{with_newcomers}
use Rattle.ame_protocol.proofs.Engine.StepLemmas.{seat_within}
use Rattle.ame_protocol.proofs.Engine.GrowthLemmas.{newcomers-keep}
use Rattle.ame_protocol.proofs.Engine.ShownPoolLemmas.{exchanged-shown}
use Rattle.ame_protocol.proofs.Engine.ToldLemmas.{next-free}
use Rattle.ame_protocol.specs.Visits.Visit.{free_entry, has_visited}
use Rattle.ame_protocol.proofs.Visits.PlaceLemmas.{visits}
use Rattle.ame_protocol.proofs.Visits.StandLemmas.{below-next}
use Rattle.ame_engine.specs.declared.engine.free.change.CellChange.{CellChange}
use Rattle.ame_engine.specs.Core.{Core}
use Rattle.ame_protocol.specs.Event.Counting.{Counted, one_counted}
use Rattle.ame_protocol.specs.Event.Event.{Event}
use Rattle.ame_protocol.specs.Event.May.{May}
use Rattle.ame_engine.specs.Seen.{parts_of, term_shown}
use Rattle.ame_engine.specs.Makes.{state_of, MakesAt}
use Rattle.ame_engine.proofs.MakesLemmas.{made-event}
use Rattle.ame_engine.specs.Whole.{resting_at, IsAtRest, IsGoodMemory, IsSound}
use Rattle.ame_engine.specs.Visiting.{IsVisitTo, visited_at, SettlesThere, changed_by, IsGoodChange, visits_at}
use Rattle.ame_engine.proofs.MemberLemmas.{all_altered}
use Rattle.ame_engine.proofs.CrewLemmas.{busy-told, none-told, room-used}
use Rattle.ame_engine.proofs.VisitMemoryLemmas.{changed-good, changed-shown}
use Rattle.ame_machine.specs.Meaning.{Meaning}
use Rattle.ame_machine.specs.RefSorts.{IsRefForm}
use Rattle.ame_engine.proofs.SoundLemmas.{sound-next}
use Rattle.ame_engine.proofs.LedgerLemmas.{list-appended, text-appended}

-- A member goes home with no more than its term

module _ {C M : Type 0} (is_machine : C → M → Type 0) (stage : C → M → MachineView) (code : C) (number : ℕ) (pool new : Roster M) (at settled : M) (inside : Bool)
    (inside-is : inside ≡ (stage code at).inside) (settles : stage code settled ≡ settled_stage (stage code at)) (is : new ≡ exchanged number settled inside pool) where
  pub sent-shown : shown_pool (term_shown stage code) new ≡ exchanged number (stage code at).term (stage code at).inside (shown_pool (term_shown stage code) pool)
  sent-shown =
      ap (shown_pool (term_shown stage code)) is ∙ exchanged-shown (term_shown stage code) number settled inside pool
      ∙ ap (λ (s : MachineView). exchanged number s.term inside (shown_pool (term_shown stage code) pool)) settles
      ∙ ap (λ (b : Bool). exchanged number (stage code at).term b (shown_pool (term_shown stage code) pool)) inside-is

  settled-rests : SettlesThere (stage code at) → stage code settled ≡ resting_at (stage code settled).term inside
  settled-rests there =
      settles ∙ ap (λ (b : Bool). record (starting_at (stage code at).term) { inside = b }) (there ∙ sym inside-is)
      ∙ sym (ap (λ (s : MachineView). resting_at s.term inside) settles)

  pub sent-rests : SettlesThere (stage code at) → is_machine code settled → All (IsAtRest is_machine stage code) pool.members
      → All (IsAtRest is_machine stage code) new.members
  sent-rests there machine all =
      subst (λ (p : Roster M). All (IsAtRest is_machine stage code) p.members) (sym is)
      (all_altered number (renewed settled inside) (IsAtRest is_machine stage code)
      (λ m rests. record { machine = machine; rests = settled-rests there }) pool.members all)

-- Room for no member is there

pub room-stays : {M : Type 0} (pool : Roster M) (count : ℕ) (bodies : List Tree) → count ≡ length bodies → bodies ≡ [] → with_room count pool ≡ pool
room-stays pool count bodies is none =
    let zero-count : count ≡ 0 = is ∙ ap (λ (xs : List Tree). length xs) none in
    ap (λ (r : ℕ). record pool { room = r }) (let same : max pool.room count ≡ pool.room = omega arith in same)

-- The whole engine

module _ {C V M : Type 0} (meaning : Meaning C V M)
    (core now : Core C V M) (view : core ≡ now) (whole : IsSound meaning core) (seat : ℕ) (attempt : Attempt)
    (task-now : task_at now.tasks seat ≡ Task.Free attempt) (left : now.turns < now.limits.turns) where
  abbrev parts : Parts
  parts = parts_of meaning core

  abbrev number : ℕ
  number = attempt.tried.number

  abbrev shown : Roster M → Roster Tree
  shown pool = shown_pool (term_shown meaning.stage core.code) pool

  is : task_at core.tasks seat ≡ Task.Free attempt
  is = subst (λ (x : Core C V M). task_at x.tasks seat ≡ Task.Free attempt) (sym view) task-now

  left' : core.turns < core.limits.turns
  left' = subst (λ (x : Core C V M). x.turns < x.limits.turns) (sym view) left

  its-visit : Visits parts whole.state.stands.types seat attempt
  its-visit = visits parts whole.state.stands seat attempt is

  pub end-task : attempt_of (task_at core.tasks seat) ≡ Some attempt
  end-task = ap attempt_of is

  pub end-within : seat < length core.tasks
  end-within = seat_within core.tasks seat attempt end-task

  pub end-few : seat < 32
  end-few =
      let within = end-within in
      let tasks : length core.tasks ≡ core.limits.seats = whole.state.stands.bounded.tasks in
      let few = whole.limits.seats in omega (arith, within, tasks, few)

  pub end-fit : (entry : Entry) (m : M) → entry ≡ free_entry seat number (meaning.stage core.code m).steps (place_shown (meaning.stage core.code m)) → IsFit entry
  end-fit entry m e = subst IsFit (sym e) (record { seat = end-few; answer = tt })

  pub called-fit : (begun entry : Entry) (m : M) (answer : ℤ) → begun ≡ free_entry seat number (meaning.stage core.code m).steps (place_shown (meaning.stage core.code m))
      → entry ≡ record begun { steps = begun.steps + 1; answer = Some answer } → IsFit entry
  called-fit begun entry m answer e f =
      subst IsFit (sym (f ∙ ap (λ (x : Entry). record x { steps = x.steps + 1; answer = Some answer }) e)) (record { seat = end-few; answer = tt })

  -- A machine has come to the end of the visit.
  module _ (m : M) (answer : Option ℤ) (change : CellChange V)
      (visit-now : IsVisitTo (parts_of meaning now) number answer (meaning.stage now.code m)
      (changed_by (meaning.value_of now.code) change (parts_of meaning now).memory)) where
    abbrev s : MachineView
    s = meaning.stage core.code m

    abbrev plain : MemoryView Val
    plain = changed_by (meaning.value_of core.code) change parts.memory

    visit : IsVisitTo parts number answer s plain
    visit =
        subst (λ (x : Core C V M). IsVisitTo (parts_of meaning x) number answer (meaning.stage x.code m)
        (changed_by (meaning.value_of x.code) change (parts_of meaning x).memory)) (sym view) visit-now

    -- the pool, with room for the new members
    module _ (count : ℕ) (count_is : count ≡ length s.spawns) (roomy : Roster M) (roomy_is : roomy ≡ with_room count core.pool) where
      plain-free : (i : ℕ) → core.next ≤ i → find i parts.pool.members ≡ None
      plain-free = next-free parts whole.state.stands

      members-same : roomy.members ≡ core.pool.members
      members-same = ap (λ (p : Roster M). p.members) roomy_is

      pub end-fresh : (i : ℕ) → core.next ≤ i → find i roomy.members ≡ None
      end-fresh i above =
          ap (λ (ms : List (Member M)). find i ms) members-same ∙ none-told (term_shown meaning.stage core.code) i core.pool (plain-free i above)

      pub end-room : count ≤ roomy.room
      end-room = let a : roomy.room ≡ max core.pool.room count = ap (λ (p : Roster M). p.room) roomy_is in omega (arith, a)

      module _ (joined : Roster M) (joined_is : shown joined ≡ with_newcomers core.next s.spawns (shown roomy)) where
        joined-shown : shown joined ≡ with_newcomers core.next s.spawns parts.pool
        joined-shown =
            joined_is ∙ ap (λ (p : Roster M). with_newcomers core.next s.spawns (shown p)) roomy_is
            ∙ room-used core.next s.spawns [] parts.pool count count_is

        pub end-busy : IsAt is_busy number joined
        end-busy =
            let below = below-next parts whole.state.stands seat number (ap member_of is) in
            busy-told (term_shown meaning.stage core.code) number joined
            (subst (IsAt (is_busy_as false) number) (sym joined-shown)
            ((newcomers-keep core.next s.spawns parts.pool plain-free number below).busy false its-visit.work.busy))

        -- all that the engine has then
        module _ (sent : M) (final : Roster M) (kept : meaning.stage core.code sent ≡ record s { spawns = [] })
            (sends : shown final ≡ exchanged number (meaning.stage core.code sent).term (meaning.stage core.code sent).inside (shown joined))
            (machine-now : meaning.is_machine now.code m) (settles-now : SettlesThere (meaning.stage now.code m))
            (join-machine : meaning.is_machine core.code m → meaning.is_machine core.code sent)
            (join-rests : meaning.is_machine core.code m → All (IsAtRest meaning.is_machine meaning.stage core.code) roomy.members → All (IsAtRest meaning.is_machine meaning.stage core.code) joined.members)
            (send-rests : meaning.is_machine core.code sent → SettlesThere (meaning.stage core.code sent) → All (IsAtRest meaning.is_machine meaning.stage core.code) joined.members
            → All (IsAtRest meaning.is_machine meaning.stage core.code) final.members)
            (memory : MemoryView V) (memory_is : memory ≡ changed_by (λ v. v) change core.memory) (good-now : IsGoodChange (meaning.is_value now.code) (IsRefForm (meaning.program now.code)) change)
            (printed output prints : List ℤ) (prints_are : prints ≡ s.prints) (printed_is : printed ≡ core.output) (appends : output ≡ printed ++ prints)
            (written text added : List ℕ) (added_is : added ≡ lines s.prints) (written_is : written ≡ core.text) (writes : text ≡ written ++ added)
            (before entries : List Entry) (entry : Entry) (entry_is : entry ≡ free_entry seat number s.steps (with_answer answer (place_shown s)))
            (before_is : before ≡ core.entries) (pushes : entries ≡ before ++ entry ∷ []) (next : ℕ) (next_is : next ≡ core.next + count) where
          machine' : meaning.is_machine core.code m
          machine' = subst (λ (x : Core C V M). meaning.is_machine x.code m) (sym view) machine-now

          settles' : SettlesThere s
          settles' = subst (λ (x : Core C V M). SettlesThere (meaning.stage x.code m)) (sym view) settles-now

          good-change : IsGoodChange (meaning.is_value core.code) (IsRefForm (meaning.program core.code)) change
          good-change = subst (λ (x : Core C V M). IsGoodChange (meaning.is_value x.code) (IsRefForm (meaning.program x.code)) change) (sym view) good-now

          rests : All (IsAtRest meaning.is_machine meaning.stage core.code) final.members
          rests =
              send-rests (join-machine machine') (subst SettlesThere (sym kept) settles')
              (join-rests machine' (subst (λ (ms : List (Member M)). All (IsAtRest meaning.is_machine meaning.stage core.code) ms) (sym members-same) whole.members))

          abbrev after : Core C V M
          after = record core {
            entries = entries;
            memory = memory;
            tasks = slice_set core.tasks seat Task.Idle;
            pool = final;
            output = output;
            text = text;
            next = next;
            turns = core.turns + 1;
            counters = one_counted Counted.Free core.counters;
          }

          output-is : output ≡ core.output ++ s.prints
          output-is = list-appended core.output printed output prints s.prints printed_is appends prints_are

          text-is : text ≡ lines output
          text-is = text-appended core.output output s.prints core.text written text added whole.text written_is writes added_is output-is

          entries-are : entries ≡ core.entries ++ free_entry seat number s.steps (with_answer answer (place_shown s)) ∷ []
          entries-are = list-appended core.entries before entries (entry ∷ []) (free_entry seat number s.steps (with_answer answer (place_shown s)) ∷ []) before_is pushes (ap (λ (e : Entry). e ∷ []) entry_is)

          next-is : next ≡ core.next + length s.spawns
          next-is = next_is ∙ ap (λ (n : ℕ). core.next + n) count_is

          memory-shown : shown_memory (meaning.value_of core.code) memory ≡ plain
          memory-shown = ap (shown_memory (meaning.value_of core.code)) memory_is ∙ changed-shown (meaning.value_of core.code) change core.memory

          pool-shown : shown final ≡ exchanged number s.term s.inside (with_newcomers core.next s.spawns parts.pool)
          pool-shown =
              sends ∙ ap (λ (x : MachineView). exchanged number x.term x.inside (shown joined)) kept
              ∙ ap (exchanged number s.term s.inside) joined-shown

          parts-with : MemoryView Val → Roster Tree → List ℤ → List Entry → ℕ → Parts
          parts-with d p o es n = record parts {
            entries = es;
            memory = d;
            tasks = slice_set core.tasks seat Task.Idle;
            pool = p;
            output = o;
            next = n;
            turns = core.turns + 1;
          }

          visited-parts : parts_of meaning after ≡ visited_at seat number answer s plain parts
          unfolding parts-with
          visited-parts = λ i. parts-with (memory-shown i) (pool-shown i) (output-is i) (entries-are i) (next-is i)

          -- so this may be
          may-visit : now.stop ≡ None → attempt.tried.steps ≤ (meaning.stage now.code m).steps
              → May (Event.Visit seat attempt s.steps visit.place s.inside plain) (state_of meaning core)
          may-visit going low = (
            record { going = subst (λ (x : Core C V M). x.stop ≡ None) (sym view) going; left = left' },
            record {
              task = is;
              visit = visit.visit;
              more = subst (λ (x : Core C V M). attempt.tried.steps ≤ (meaning.stage x.code m).steps) (sym view) low;
            },
          )

          pub makes-visited : now.stop ≡ None → attempt.tried.steps ≤ (meaning.stage now.code m).steps → MakesAt meaning (meaning.stage now.code m) answer
              (visits_at seat attempt (meaning.stage now.code m) (changed_by (meaning.value_of now.code) change (parts_of meaning now).memory)) now after
          makes-visited going low =
              subst (λ (x : Core C V M). MakesAt meaning (meaning.stage x.code m) answer
              (visits_at seat attempt (meaning.stage x.code m) (changed_by (meaning.value_of x.code) change (parts_of meaning x).memory)) x after) view
              (record {
                place = visit.place;
                shows = visit.shows;
                makes = made-event meaning (one_counted Counted.Free) (has_visited seat number s.steps visit.place s.inside plain)
                    (Event.Visit seat attempt s.steps visit.place s.inside plain) core after refl refl (may-visit going low)
                    (record {
                      code = refl;
                      parts = subst (λ (q : LocalState). parts_of meaning after ≡ has_visited seat number s.steps q s.inside plain parts) (sym visit.shows) visited-parts;
                      counted = refl;
                      stop = refl;
                    });
              })

          pub whole-visited : now.stop ≡ None → attempt.tried.steps ≤ (meaning.stage now.code m).steps → IsSound meaning after
          whole-visited going low =
              let at = makes-visited going low in
              sound-next meaning core now after view whole
              (visits_at seat attempt (meaning.stage now.code m) (changed_by (meaning.value_of now.code) change (parts_of meaning now).memory) at.place) at.makes
              (subst (IsGoodMemory (meaning.is_value core.code) (IsRefForm (meaning.program core.code))) (sym memory_is)
              (changed-good (meaning.is_value core.code) (IsRefForm (meaning.program core.code)) change core.memory good-change whole.memory))
              rests text-is
