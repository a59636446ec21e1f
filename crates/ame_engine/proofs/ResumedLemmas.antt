-- An engine that goes on from a base.
use Rattle.std.proofs.Common.{◌≡◌, ℕ, ◌<◌, Bool, true, false, List, [], ◌∷◌, map, All, Option, Some, None, option_map, refl, sym, ap, ◌∙◌, subst, replicate}
use Rattle.std.specs.Prelude.{ℤ}
use Rattle.std.proofs.lemmas.List.Elements.{All-nil, All-map, All-replicate}
use Rattle.ame_io.specs.Lines.{lines}
use Rattle.ame_term.specs.Tree.{Val, Tree}
use Rattle.ame_term.specs.Context.{focus}
use Rattle.ame_term.specs.Maps.{at}
use Rattle.ame_term.specs.State.{at_unprotected}
use Rattle.ame_journal.specs.declared.entry.Entry.{Entry}
use Rattle.ame_journal.specs.Replayed.{is_inside, has_such}
use Rattle.ame_journal.proofs.ReachedLemmas.{IsCalm, calm-replayed}
use Rattle.ame_machine.specs.MachineView.{MachineView, starting_at}
use Rattle.ame_machine.specs.Meaning.{Meaning}
use Rattle.ame_check.specs.Shows.{ReplayView, ShowsMember, StandsForEntries}
use Rattle.ame_check.specs.declared.stored.Stored.{Stored}
use Rattle.ame_store.specs.declared.cell.Cell.{Cell}
use Rattle.ame_store.specs.Cells.{IsFree}
use Rattle.ame_pool.specs.declared.member.Member.{Member}
use Rattle.ame_pool.specs.declared.member.MemberStanding.{MemberStanding}
use Rattle.ame_pool.specs.Members.{find, IsRising}
use Rattle.ame_pool.specs.Keeps.{is_inside_at}
use Rattle.ame_pool.specs.Calls.{machine_of}
use Rattle.ame_pool.specs.Roster.{Roster}
use Rattle.ame_pool.proofs.MemberLemmas.{all_found}
use Rattle.ame_rows.specs.MemoryView.{Log, MemoryView, no_log}
use Rattle.ame_protocol.specs.declared.types.Limits.{Limits}
use Rattle.ame_protocol.specs.declared.types.Task.{Task}
use Rattle.ame_protocol.specs.declared.types.Tried.{Tried}
use Rattle.ame_journal.specs.declared.certificate.Certificate.{Certificate}
use Rattle.ame_protocol.specs.declared.counters.Counters.{Counters}
use Rattle.ame_protocol.specs.Engine.Parts.{Parts}
use Rattle.ame_protocol.specs.Engine.Shown.{shown_member, shown_pool}
use Rattle.ame_protocol.proofs.Engine.ShownPoolLemmas.{found-shown}
use Rattle.ame_protocol.specs.Visits.Opened.{AreOpened, AreAllReady, HasMembersOf}
use Rattle.ame_protocol.specs.Event.Counting.{nothing_counted}
use Rattle.ame_protocol.specs.Event.Sound.{Sound}
use Rattle.ame_protocol.specs.Event.EngineState.{EngineState, opened_state}
use Rattle.ame_protocol.proofs.Event.OpenedLemmas.{sound-opened}
use Rattle.ame_engine.specs.Core.{Core}
use Rattle.ame_engine.specs.Seen.{parts_of, term_shown}
use Rattle.ame_engine.specs.Makes.{state_of}
use Rattle.ame_engine.specs.Whole.{AreLimits, IsGoodLog, IsGoodUndo, IsAtRest, IsSound}
use Rattle.ame_engine.specs.Resuming.{AreActs, AreCellsOf, AreMembersOf, HasResumed}
use Rattle.ame_engine.proofs.ResumedCells.{shown, cells-opened, cells-good, cells-form}
use Rattle.ame_engine.proofs.ResumedMembers.{as_member, member-at}
use Rattle.ame_engine.proofs.StartLemmas.{rows-shown}

-- the parts of a replay
pub stands-as : {C V M A B O : Type 0} (meaning : Meaning C V M) (code : C) (base : List Entry) (p q : A × B × O × ℕ) → p ≡ q
    → (cells : A → List (ℕ × Stored V)) (members : B → List (ℕ × M)) (output : O → List ℤ)
    → StandsForEntries meaning code base (record { cells = cells q.0; members = members q.1; output = output q.2; next = q.3 })
    → StandsForEntries meaning code base (record { cells = cells p.0; members = members p.1; output = output p.2; next = p.3 })
stands-as {C} {V} {M} {A} {B} {O} meaning code base p q e cells members output st =
    subst (λ (z : A × B × O × ℕ). StandsForEntries meaning code base (record { cells = cells z.0; members = members z.1; output = output z.2; next = z.3 })) (sym e) st

-- cells without owners
pub all-free : {V : Type 0} (store cells : List (Cell V)) → store ≡ cells → All IsFree cells → All IsFree store
all-free {V} store cells e all = subst (λ (cs : List (Cell V)). All IsFree cs) (sym e) all

-- A pool of members that are ready, as plain data

module _ {M : Type 0} (term : M → Tree) where
  rising-shown : (ms : List (Member M)) → IsRising ms → IsRising (map (shown_member term) ms)
  rising-shown [] r = tt
  rising-shown (m ∷ ms) r = (All-map (λ (o : Member Tree). m.number < o.number) (shown_member term) ms r.0, rising-shown ms r.1)

  numbers-shown : (ms : List (Member M)) → map (λ (m : Member M). m.number) ms ≡ map (λ (m : Member Tree). m.number) (map (shown_member term) ms)
  numbers-shown [] = refl
  numbers-shown (m ∷ ms) = ap (λ (ns : List ℕ). m.number ∷ ns) (numbers-shown ms)

  ready-shown : (pool : Roster M) → AreAllReady pool → AreAllReady (shown_pool term pool)
  ready-shown pool r = record {
    rising = rising-shown pool.members r.rising;
    ready = All-map (λ (m : Member Tree). (m.standing ≡ MemberStanding.Ready) × (m.rollbacks ≡ 0)) (shown_member term) pool.members r.ready;
    order = r.order ∙ numbers-shown pool.members;
  }

module _ {C V M : Type 0} (meaning : Meaning C V M) (code : C) (limits : Limits) (base : List Entry) (place : ReplayView V M)
    (in_range : AreLimits limits) (acts : AreActs base) (st : StandsForEntries meaning code base place) where
  abbrev term : M → Tree
  term = term_shown meaning.stage code

  calm : IsCalm st.led
  calm = calm-replayed (meaning.program code) base st.led st.replayed

  absent-outside : (i : ℕ) → at st.led.state.members i ≡ None → (b : Bool) → is_inside st.led i ≡ b → b ≡ false
  absent-outside i none true inside =
      let stands = calm.standing i inside in
      let clash : false ≡ true = sym (ap (has_such (λ (t : Tree). at_unprotected (focus t))) none) ∙ stands in
      cc
  absent-outside i none false inside = refl

  module _ (pool : Roster M) (mem : AreMembersOf meaning.stage code place.members pool) where
    found : (i : ℕ) → find i pool.members ≡ option_map (λ m. as_member meaning.stage code (i, m)) (at place.members i)
    found i = ap (find i) mem.all ∙ member-at meaning.stage code place.members i

    found-term : (i : ℕ) → find i (shown_pool term pool).members ≡ option_map (shown_member term) (option_map (λ m. as_member meaning.stage code (i, m)) (at place.members i))
    found-term i = found-shown term i pool.members ∙ ap (option_map (shown_member term)) (found i)

    has-members : HasMembersOf st.led (shown_pool term pool)
    has-members = record { members = its-term; inside = its-side }
      where
        its-term : (i : ℕ) → at st.led.state.members i ≡ machine_of i (shown_pool term pool)
        its-term i = by (at place.members i) (st.shows.members i) ∙ sym (ap (option_map (λ (m : Member Tree). m.machine)) (found-term i))
          where
            by : (o : Option M) → ShowsMember meaning code (is_inside st.led i) o (at st.led.state.members i)
                → at st.led.state.members i ≡ option_map (λ (m : Member Tree). m.machine) (option_map (shown_member term) (option_map (λ m. as_member meaning.stage code (i, m)) o))
            by None none = none
            by (Some m) shows = shows.1

        its-side : (i : ℕ) → is_inside st.led i ≡ is_inside_at (shown_pool term pool).members i
        its-side i =
            by (at place.members i) (st.shows.members i)
            ∙ sym (ap (λ (o : Option (Member Tree)). elim o [ None ↦ false | Some m ↦ m.inside ]) (found-term i))
          where
            by : (o : Option M) → ShowsMember meaning code (is_inside st.led i) o (at st.led.state.members i)
                → is_inside st.led i ≡ elim (option_map (shown_member term) (option_map (λ m. as_member meaning.stage code (i, m)) o)) [ None ↦ false | Some m ↦ m.inside ]
            by None none = absent-outside i none (is_inside st.led i) refl
            by (Some m) shows = sym (ap (λ (z : MachineView). z.inside) shows.2)

    at-rest : All (IsAtRest meaning.is_machine meaning.stage code) pool.members
    at-rest = all_found (IsAtRest meaning.is_machine meaning.stage code) pool.members mem.ready.rising (λ n m is. by n m (at place.members n) (st.shows.members n) (sym (found n) ∙ is))
      where
        by : (n : ℕ) (m : Member M) (o : Option M) → ShowsMember meaning code (is_inside st.led n) o (at st.led.state.members n)
            → option_map (λ k. as_member meaning.stage code (n, k)) o ≡ Some m → IsAtRest meaning.is_machine meaning.stage code m
        by n m None none is = absurd (let clash : ◌≡◌ {A = Option (Member M)} None (Some m) = is in cc)
        by n m (Some k) shows is =
            let same : as_member meaning.stage code (n, k) ≡ m = cc in
            subst (IsAtRest meaning.is_machine meaning.stage code) same (record {
              machine = shows.0;
              rests =
                  shows.2 ∙ ap (λ (b : Bool). record (starting_at (meaning.stage code k).term) { inside = b }) (sym (ap (λ (z : MachineView). z.inside) shows.2));
            })

    module _ (same : V → V → Type 0) (good_same : (x y : V) → same x y → meaning.is_value code x → meaning.is_value code y)
        (shown_same : (x y : V) → same x y → meaning.value_of code x ≡ meaning.value_of code y) (cells : List (Cell V)) (are : AreCellsOf same place.cells cells) where
      abbrev pub resumed_with : Core C V M
      resumed_with = record {
        code = code;
        limits = limits;
        base = base;
        entries = [];
        memory = record { cells = cells; rows = replicate limits.seats no_log };
        tasks = replicate limits.seats Task.Idle;
        pool = pool;
        output = place.output;
        text = lines place.output;
        next = place.next;
        turns = 0;
        counters = nothing_counted;
        tried = [];
        stop = None;
        certificates = [];
      }

      abbrev state : EngineState
      state = opened_state (meaning.program code) (meaning.signature code) limits base (shown meaning code same good_same shown_same place.cells cells are) (shown_pool term pool)
          st.led.state.output st.led.state.next

      parts-with : List (Log Val) → List ℤ → ℕ → Parts
      parts-with rows output next = record state.parts { memory = record { cells = state.parts.memory.cells; rows = rows }; output = output; next = next }

      state-with : Parts → EngineState
      state-with parts = record { parts = parts; counters = nothing_counted; stop = None; certificates = [] }

      parts-resumed : parts_of meaning resumed_with ≡ state.parts
      unfolding parts-with
      parts-resumed =
          ap (λ (rows : List (Log Val)). parts-with rows place.output place.next) (rows-shown (meaning.value_of code) limits.seats)
          ∙ ap (λ (output : List ℤ). parts-with (replicate limits.seats no_log) output place.next) st.shows.output
          ∙ ap (λ (next : ℕ). parts-with (replicate limits.seats no_log) st.led.state.output next) st.shows.next

      state-resumed : state_of meaning resumed_with ≡ state
      unfolding state-with
      state-resumed = ap state-with parts-resumed

      has-cells : AreOpened (meaning.signature code) st.types state.parts.memory.cells st.led.state
      has-cells = cells-opened meaning code same good_same shown_same place.cells cells are st.led.state st.types st.shows.store st.forms

      sound : Sound state
      sound = sound-opened (meaning.program code) (meaning.signature code) limits base (shown meaning code same good_same shown_same place.cells cells are) (shown_pool term pool) st.led st.types
          st.replayed st.typed has-cells has-members (ready-shown term pool mem.ready) acts in_range.some_slice

      pub resumed-sound : IsSound meaning resumed_with
      resumed-sound = record {
        state = subst Sound (sym state-resumed) sound;
        limits = in_range;
        memory = record {
          cells = cells-good meaning code same good_same shown_same place.cells cells are st.led.state st.types st.shows.store st.forms;
          forms = cells-form meaning code same good_same shown_same place.cells cells are st.led.state st.types st.shows.store st.forms;
          rows = All-replicate (IsGoodLog (meaning.is_value code)) limits.seats no_log
              (record { inputs = All-nil (meaning.is_value code); undos = All-nil (IsGoodUndo (meaning.is_value code)) });
        };
        members = at-rest;
        text = refl;
      }

      pub resumed-so : HasResumed meaning limits base resumed_with
      resumed-so = record {
        led = st.led;
        replayed = st.replayed;
        types = st.types;
        typed = st.typed;
        cells = shown meaning code same good_same shown_same place.cells cells are;
        has_cells = has-cells;
        pool = shown_pool term pool;
        has_members = has-members;
        ready = ready-shown term pool mem.ready;
        state = state-resumed;
      }

      module _ (entries : List Entry) (store : List (Cell V)) (memory : MemoryView V) (tasks : List Task) (text : List ℕ) (counters : Counters) (tried : List Tried) (certificates : List Certificate)
          (no_entries : entries ≡ []) (kept : store ≡ cells) (fresh : memory ≡ record { cells = store; rows = replicate limits.seats no_log }) (idle : tasks ≡ replicate limits.seats Task.Idle)
          (printed : text ≡ lines place.output) (no_counts : counters ≡ nothing_counted) (no_tries : tried ≡ []) (no_certificates : certificates ≡ []) where
        abbrev found_core : Core C V M
        found_core = record resumed_with { entries = entries; memory = memory; tasks = tasks; text = text; counters = counters; tried = tried; certificates = certificates }

        memory-with : List (Cell V) → MemoryView V
        memory-with found = record { cells = found; rows = replicate limits.seats no_log }

        memory-is : memory ≡ record { cells = cells; rows = replicate limits.seats no_log }
        unfolding memory-with
        memory-is = fresh ∙ ap memory-with kept

        as-found : found_core ≡ resumed_with
        as-found = λ i. record {
          code = code;
          limits = limits;
          base = base;
          entries = no_entries i;
          memory = memory-is i;
          tasks = idle i;
          pool = pool;
          output = place.output;
          text = printed i;
          next = place.next;
          turns = 0;
          counters = no_counts i;
          tried = no_tries i;
          stop = None;
          certificates = no_certificates i;
        }

        pub found-sound : IsSound meaning found_core
        found-sound = subst (IsSound meaning) (sym as-found) resumed-sound

        pub found-resumed : HasResumed meaning limits base found_core
        found-resumed = subst (HasResumed meaning limits base) (sym as-found) resumed-so
