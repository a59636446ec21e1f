-- A seat commits.
use Rattle.std.proofs.Common.{◌≡◌, ℕ, ◌+◌, ◌<◌, ◌≤◌, ◌⊎◌, inl, inr, Bool, true, false, cond, List, [], ◌∷◌, ◌++◌, map, length, All, Option, Some, None, option_map, refl, sym, ap, ◌∙◌, subst, arith, rules}
use Rattle.std.specs.Prelude.{ℤ, Contains, slice_set, unwrap_or, max}
use Rattle.std.specs.List.Sorted.{IsPermutation, IsStrictlyIncreasing}
use Rattle.std.specs.Option.{option_map_or}
use Rattle.std.proofs.lemmas.List.Sorted.{IsPermutation-refl}
use Rattle.std.proofs.lemmas.List.Elements.{All-map, All-set, All-nil, All-cons, All-head, All-tail, All-weaker}
use Rattle.ame_io.specs.Lines.{lines}
use Rattle.ame_term.specs.Tree.{Val, Tree}
use Rattle.ame_term.specs.declared.types.Sort.{Sort}
use Rattle.ame_term.specs.Frame.{Side, side_told}
use Rattle.ame_term.specs.Context.{focus}
use Rattle.ame_term.specs.State.{at_value, at_unprotected}
use Rattle.ame_term.specs.declared.types.Loc.{Loc}
use Rattle.ame_journal.specs.declared.entry.Entry.{Entry}
use Rattle.ame_journal.specs.JournalView.{IsFit}
use Rattle.ame_store.specs.declared.cell.Cell.{Cell}
use Rattle.ame_store.specs.Cells.{CanGrow, IsOwnedBy}
use Rattle.ame_protocol.specs.Row.Heap.{cell_at}
use Rattle.ame_store.specs.Changes.{released}
use Rattle.ame_rows.specs.declared.notes.Undo.{Undo}
use Rattle.ame_rows.specs.declared.notes.Undo.TheVariants.{Wrote, Made}
use Rattle.ame_rows.specs.Valid.{IsValid}
use Rattle.ame_machine.specs.Run.Local.{LocalState, local}
use Rattle.ame_pool.specs.Members.{find, is_busy}
use Rattle.ame_pool.specs.Roster.{Roster}
use Rattle.ame_pool.specs.Calls.{IsAt, exchanged, removed, woken, with_room}
use Rattle.ame_rows.specs.MemoryView.{Log, MemoryView, no_log, row_at}
use Rattle.ame_rows.specs.Access.{is_owned_by}
use Rattle.ame_rows.specs.Entries.{named_by, places}
use Rattle.ame_rows.specs.LettingGo.{released_by, released_all}
use Rattle.ame_protocol.specs.Row.Shown.{shown_cell, shown_undo}
use Rattle.ame_protocol.specs.Row.SeatRun.{HasUsed, AreValid}
use Rattle.ame_machine.specs.declared.wants.Wants.{Wants}
use Rattle.ame_machine.specs.declared.wants.Wants.TheVariants as wants
use Rattle.ame_machine.specs.MachineView.{MachineView, running_side, place_shown, without_footprint, with_answer}
use Rattle.ame_machine.specs.Need.{Need}
use Rattle.ame_machine.specs.Sound.{IsSoundStage}
use Rattle.ame_machine.proofs.NeedLemmas.{comes_as}
use Rattle.ame_protocol.specs.declared.types.Attempt.{Attempt}
use Rattle.ame_protocol.specs.declared.types.Task.{Task}
use Rattle.ame_protocol.specs.Engine.Parts.{Parts, heap_in, task_at, term_at, attempt_of, member_of, run_in, working}
use Rattle.ame_protocol.specs.Engine.Shown.{shown_memory, shown_pool}
use Rattle.ame_protocol.specs.Engine.Tasks.{is_busy_as, RunsProtected}
use Rattle.ame_protocol.specs.Engine.Events.{woken_for, with_newcomers, ran_entry, has_ended, has_left}
use Rattle.ame_protocol.proofs.Engine.StepLemmas.{seat_within}
use Rattle.ame_protocol.proofs.Engine.AccessLemmas.{runs}
use Rattle.ame_protocol.proofs.Engine.CommitLemmas.{below-next}
use Rattle.ame_protocol.proofs.Engine.MemoryEvents.{memory-valid}
use Rattle.ame_protocol.proofs.Engine.GrowthLemmas.{keeps-on, woken-keeps, woken-free, newcomers-keep}
use Rattle.ame_protocol.proofs.Engine.ShownMemoryLemmas.{row-shown, release-shown}
use Rattle.ame_protocol.proofs.Engine.ShownPoolLemmas.{removed-shown}
use Rattle.ame_protocol.proofs.Engine.ToldLemmas.{cells-grow, next-free}
use Rattle.ame_protocol.proofs.Waits.CommitLemmas.{owned-named}
use Rattle.ame_engine.specs.Core.{Core}
use Rattle.ame_protocol.specs.Event.Counting.{Counted, one_counted}
use Rattle.ame_protocol.specs.Event.Event.{Event}
use Rattle.ame_protocol.specs.Event.May.{May}
use Rattle.ame_engine.specs.Seen.{parts_of, term_shown}
use Rattle.ame_engine.specs.Makes.{state_of, MakesAt, Makes}
use Rattle.ame_engine.proofs.MakesLemmas.{made-event}
use Rattle.ame_engine.specs.Whole.{IsGoodUndo, IsGoodLog, IsGoodMemory, IsAtRest, IsSound}
use Rattle.ame_engine.specs.AtWork.{IsOnSeat, IsOn}
use Rattle.ame_engine.specs.Committing.{commits, owned_places, ended_at, left_at, ends_at, leaves_at}
use Rattle.ame_engine.proofs.ReadLemmas.{runs-as}
use Rattle.ame_engine.proofs.CheckLemmas.{valid-shown}
use Rattle.ame_engine.proofs.OwnedLemmas.{owned-are, owned-named as owned-listed}
use Rattle.ame_engine.proofs.CrewLemmas.{woken-rest, woken-none, woken-alike, all-woken-shown, busy-told, none-told, room-used, all-woken-room}
use Rattle.ame_machine.specs.Meaning.{Meaning}
use Rattle.ame_machine.specs.RefSorts.{IsRefForm}
use Rattle.ame_engine.proofs.SoundLemmas.{sound-next}
use Rattle.ame_engine.proofs.LedgerLemmas.{list-appended, text-appended}

-- what the machine wants
pub which-want : (o : Option Wants) → commits o ≡ true → (o ≡ Some wants.Done) ⊎ (o ≡ Some wants.Leave)
which-want (Some wants.Done) e = inl refl
which-want (Some wants.Leave) e = inr refl
which-want None e = absurd (let clash : false ≡ true = e in cc)
which-want (Some (wants.Read l)) e = absurd (let clash : false ≡ true = e in cc)
which-want (Some (wants.Write l)) e = absurd (let clash : false ≡ true = e in cc)
which-want (Some (wants.Alloc sort number)) e = absurd (let clash : false ≡ true = e in cc)
which-want (Some (wants.Peek l)) e = absurd (let clash : false ≡ true = e in cc)
which-want (Some wants.Block) e = absurd (let clash : false ≡ true = e in cc)
which-want (Some wants.Close) e = absurd (let clash : false ≡ true = e in cc)
which-want (Some (wants.Device device n)) e = absurd (let clash : false ≡ true = e in cc)
which-want (Some wants.Spawn) e = absurd (let clash : false ≡ true = e in cc)
which-want (Some (wants.Print n)) e = absurd (let clash : false ≡ true = e in cc)
which-want (Some wants.Tall) e = absurd (let clash : false ≡ true = e in cc)
which-want (Some wants.OutOfFuel) e = absurd (let clash : false ≡ true = e in cc)

-- The place of the run, by what the machine shows.
pub shown-place : (o : Option LocalState) (s : MachineView) → option_map without_footprint o ≡ Some (with_answer None (place_shown s))
    → (p : LocalState) × (o ≡ Some p) × (without_footprint p ≡ with_answer None (place_shown s))
shown-place None s e = absurd (let clash : ◌≡◌ {A = Option LocalState} None (Some (with_answer None (place_shown s))) = e in cc)
shown-place (Some p) s e = (p, refl, ap (λ (o : Option LocalState). option_map_or (λ x. x) o (without_footprint p)) e)

-- The log of a seat names the same locations as shown, and the seat owns the same cells.

module _ {V : Type 0} (view : V → Val) where
  named-shown : (u : Undo V) → named_by (shown_undo view u) ≡ named_by u
  named-shown (Wrote l number old) = refl
  named-shown (Made l) = refl

  places-shown : (undos : List (Undo V)) → places (map (shown_undo view) undos) ≡ places undos
  places-shown [] = refl
  places-shown (u ∷ us) = ap (λ (n : ℕ). n ∷ places (map (shown_undo view) us)) (named-shown u) ∙ ap (λ (ns : List ℕ). named_by u ∷ ns) (places-shown us)

-- Good values

module _ {V : Type 0} (IsGood : V → Type 0) (IsForm : Sort → ℕ → Type 0) (seat : ℕ) where
  released-good : (cell : Cell V) → IsGood cell.value → IsGood (released_by seat cell).value
  released-good cell good = by (is_owned_by seat cell)
    where
      by : (b : Bool) → IsGood (cond b (released cell) cell).value
      by true = good
      by false = good

  released-form : (cell : Cell V) → IsForm cell.sort cell.ty.0 → IsForm (released_by seat cell).sort (released_by seat cell).ty.0
  released-form cell form = by (is_owned_by seat cell)
    where
      by : (b : Bool) → IsForm (cond b (released cell) cell).sort (cond b (released cell) cell).ty.0
      by true = form
      by false = form

  pub memory-released : (c : MemoryView V) → IsGoodMemory IsGood IsForm c → IsGoodMemory IsGood IsForm (released_all seat c)
  memory-released c good = record {
    cells = All-map (λ (cell : Cell V). IsGood cell.value) (released_by seat) c.cells
        (All-weaker (λ (cell : Cell V). IsGood cell.value) (λ cell. IsGood (released_by seat cell).value) released-good c.cells good.cells);
    forms = All-map (λ (cell : Cell V). IsForm cell.sort cell.ty.0) (released_by seat) c.cells
        (All-weaker (λ (cell : Cell V). IsForm cell.sort cell.ty.0) (λ cell. IsForm (released_by seat cell).sort (released_by seat cell).ty.0) released-form c.cells good.forms);
    rows = All-set (IsGoodLog IsGood) c.rows seat no_log (record { inputs = All-nil IsGood; undos = All-nil (IsGoodUndo IsGood) }) good.rows;
  }

all-grow : {V : Type 0} (view : V → Val) (cells : List (Cell V)) → All CanGrow (map (shown_cell view) cells) → All CanGrow cells
all-grow view [] all = All-nil CanGrow
all-grow view (cell ∷ cells) all =
    let head : CanGrow (shown_cell view cell) = All-head CanGrow (shown_cell view cell) (map (shown_cell view) cells) all in
    All-cons CanGrow cell cells head (all-grow view cells (All-tail CanGrow (shown_cell view cell) (map (shown_cell view) cells) all))

-- The locations for which a commit wakes members

module _ {C V M : Type 0} (meaning : Meaning C V M) (core now : Core C V M) (view : core ≡ now) (whole : IsSound meaning core) (seat : ℕ) where
  abbrev WakesAlike : List ℕ → Core C V M → Type 0
  WakesAlike ls x = woken_for ls x.pool ≡ woken_for (owned_places seat (parts_of meaning x).memory.cells) x.pool

  owned-shown : (ls : List ℕ) → IsPermutation (places (row_at core.memory.rows seat).undos) ls → IsStrictlyIncreasing ls
      → ls ≡ owned_places seat (parts_of meaning core).memory.cells
  owned-shown ls same rising =
      let parts = parts_of meaning core in
      let as-shown : places (row_at parts.memory.rows seat).undos ≡ places (row_at core.memory.rows seat).undos =
      ap (λ (n : Log Val). places n.undos) (row-shown (meaning.value_of core.code) core.memory.rows seat)
      ∙ places-shown (meaning.value_of core.code) (row_at core.memory.rows seat).undos in
      owned-are seat parts.memory.cells (row_at parts.memory.rows seat).undos (whole.state.stands.consistent.logs seat) ls
      (subst (λ (ns : List ℕ). IsPermutation ns ls) (sym as-shown) same) rising

  -- those that its log names wake what its cells do
  pub owned-wake : (owned : List Loc) → IsPermutation (places (row_at core.memory.rows seat).undos) (map (λ l. l.0) owned)
      → IsStrictlyIncreasing (map (λ l. l.0) owned) → WakesAlike (map (λ l. l.0) owned) now
  owned-wake owned same rising =
      let ls : List ℕ = map (λ l. l.0) owned in
      subst (WakesAlike ls) view (ap (λ (ks : List ℕ). woken_for ks core.pool) (owned-shown ls same rising))

  -- and if no location wakes a member, neither do they
  pub nobody-wakes : (locs : List Loc) → locs ≡ [] → ((l : ℕ) → woken l core.pool ≡ core.pool) → WakesAlike (map (λ l. l.0) locs) now
  nobody-wakes locs empty none =
      subst (WakesAlike (map (λ l. l.0) locs)) view
      (ap (λ (ls : List Loc). woken_for (map (λ l. l.0) ls) core.pool) empty
      ∙ sym (woken-none (owned_places seat (parts_of meaning core).memory.cells) core.pool none))

-- The whole engine

module _ {C V M : Type 0} (meaning : Meaning C V M)
    (core now : Core C V M) (view : core ≡ now) (whole : IsSound meaning core) (seat : ℕ) (m : M)
    (on : IsOn meaning now seat m) (outside : (meaning.stage now.code m).inside ≡ false)
    (sound : IsSoundStage (meaning.stage now.code m)) (left : now.turns < now.limits.turns) (attempt : Attempt)
    (runs-now : task_at now.tasks seat ≡ Task.Running attempt) (valid-now : IsValid now.memory.cells seat (row_at now.memory.rows seat).reads) where
  abbrev parts : Parts
  parts = parts_of meaning core

  abbrev s : MachineView
  s = meaning.stage core.code m

  abbrev number : ℕ
  number = attempt.tried.number

  abbrev shown : Roster M → Roster Tree
  shown pool = shown_pool (term_shown meaning.stage core.code) pool

  pub on' : IsOnSeat parts seat s
  on' = subst (λ (x : Core C V M). IsOnSeat (parts_of meaning x) seat (meaning.stage x.code m)) (sym view) on.stands

  outside' : s.inside ≡ false
  outside' = subst (λ (x : Core C V M). (meaning.stage x.code m).inside ≡ false) (sym view) outside

  pub sound' : IsSoundStage s
  sound' = subst (λ (x : Core C V M). IsSoundStage (meaning.stage x.code m)) (sym view) sound

  pub left' : core.turns < core.limits.turns
  left' = subst (λ (x : Core C V M). x.turns < x.limits.turns) (sym view) left

  is : task_at core.tasks seat ≡ Task.Running attempt
  is = subst (λ (x : Core C V M). task_at x.tasks seat ≡ Task.Running attempt) (sym view) runs-now

  valid : IsValid core.memory.cells seat (row_at core.memory.rows seat).reads
  valid = subst (λ (x : Core C V M). IsValid x.memory.cells seat (row_at x.memory.rows seat).reads) (sym view) valid-now

  machine' : meaning.is_machine core.code m
  machine' = subst (λ (x : Core C V M). meaning.is_machine x.code m) (sym view) on.machine

  pub one-attempt : on'.attempt ≡ attempt
  one-attempt = ap (λ (t : Task). unwrap_or (working t) attempt) (sym (runs-as parts seat s on' outside') ∙ is)

  -- it has made no fewer steps than at its last valid check
  pub commit-low : attempt.tried.steps ≤ s.steps
  commit-low =
      let since : s.steps ≡ s.since + attempt.tried.steps = subst (λ (a : Attempt). s.steps ≡ s.since + a.tried.steps) one-attempt on'.since in omega arith

  pub place : (p : LocalState)
      × (local (running_side s) (term_at parts.pool on'.attempt.tried.number) (row_at parts.memory.rows seat).inputs s.steps ≡ Some p)
      × (without_footprint p ≡ with_answer None (place_shown s))
  place = shown-place (local (running_side s) (term_at parts.pool on'.attempt.tried.number) (row_at parts.memory.rows seat).inputs s.steps) s on'.run

  pub used : HasUsed (run_in parts seat number) s.steps place.0
  used =
      let start = term_at parts.pool on'.attempt.tried.number in
      let inputs = (row_at parts.memory.rows seat).inputs in
      subst (λ (a : Attempt). HasUsed (run_in parts seat a.tried.number) s.steps place.0) one-attempt
      (record {
        ran = subst (λ (x : Side). local x start inputs s.steps ≡ Some place.0) (ap side_told outside') place.1;
        used = ap (λ (x : LocalState). x.inputs) place.2;
      })

  pub are-valid : AreValid (heap_in parts) seat (run_in parts seat number).reads
  are-valid =
      memory-valid parts.memory seat (row_at parts.memory.rows seat).reads
      (subst (IsValid parts.memory.cells seat) (sym (ap (λ (n : Log Val). n.reads) (row-shown (meaning.value_of core.code) core.memory.rows seat)))
      (valid-shown (meaning.value_of core.code) core.memory.cells seat (row_at core.memory.rows seat).reads valid))

  pub its-runs : RunsProtected parts whole.state.stands.types seat attempt
  its-runs = runs parts whole.state.stands seat attempt is

  pub commit-runs : task_at core.tasks seat ≡ Task.Running attempt
  commit-runs = is

  pub commit-within : seat < length core.tasks
  commit-within = seat_within core.tasks seat attempt (ap attempt_of is)

  pub commit-few : seat < 32
  commit-few =
      let within = commit-within in
      let tasks : length core.tasks ≡ core.limits.seats = whole.state.stands.bounded.tasks in
      let few = whole.limits.seats in omega (arith, within, tasks, few)

  pub commit-fit : (entry : Entry) → entry ≡ ran_entry seat number s.steps (place_shown s) → IsFit entry
  commit-fit entry e = subst IsFit (sym e) (record { seat = commit-few; answer = search rules })

  pub commit-grows : All CanGrow core.memory.cells
  commit-grows = all-grow (meaning.value_of core.code) core.memory.cells (cells-grow parts whole.state.stands (let h = whole.limits.turns in omega arith))

  -- the locations that it owns, and those for which members are woken, which wake the same
  module _ (owned : List Loc)
      (alike-now : woken_for (map (λ l. l.0) owned) now.pool ≡ woken_for (owned_places seat (parts_of meaning now).memory.cells) now.pool) where
    abbrev ls : List ℕ
    ls = owned_places seat parts.memory.cells

    alike : woken_for (map (λ l. l.0) owned) core.pool ≡ woken_for ls core.pool
    alike =
        subst (λ (x : Core C V M). woken_for (map (λ l. l.0) owned) x.pool ≡ woken_for (owned_places seat (parts_of meaning x).memory.cells) x.pool) (sym view)
        alike-now

    woken-there : (l : ℕ) → IsOwnedBy seat (cell_at (heap_in parts) l) → Contains ls l
    woken-there l own =
        let undos = (row_at parts.memory.rows seat).undos in
        owned-listed seat parts.memory.cells undos (whole.state.stands.consistent.logs seat) l
        (owned-named parts seat (places undos) whole.state.stands (IsPermutation-refl (places undos)) l own)

    -- the pool, with room for the new members and with those that are woken
    module _ (count : ℕ) (count_is : count ≡ length s.spawns) (roomy waked : Roster M) (roomy_is : roomy ≡ with_room count core.pool)
        (slice : List Loc) (slice_is : slice ≡ owned) (wakes : waked ≡ woken_for (map (λ l. l.0) slice) roomy) where
      waked_is : waked ≡ woken_for ls roomy
      waked_is =
          wakes ∙ ap (λ (xs : List Loc). woken_for (map (λ l. l.0) xs) roomy) slice_is ∙ ap (woken_for (map (λ l. l.0) owned)) roomy_is
          ∙ woken-alike (map (λ l. l.0) owned) ls count core.pool alike ∙ ap (woken_for ls) (sym roomy_is)

      abbrev plain_roomy : Roster Tree
      plain_roomy = with_room count parts.pool

      waked-shown : shown waked ≡ woken_for ls plain_roomy
      waked-shown = ap shown waked_is ∙ all-woken-shown (term_shown meaning.stage core.code) ls roomy ∙ ap (λ (p : Roster M). woken_for ls (shown p)) roomy_is

      plain-free : (i : ℕ) → core.next ≤ i → find i (woken_for ls plain_roomy).members ≡ None
      plain-free = woken-free core.next ls plain_roomy (λ i above. next-free parts whole.state.stands i above)

      pub commit-fresh : (i : ℕ) → core.next ≤ i → find i waked.members ≡ None
      commit-fresh i above =
          none-told (term_shown meaning.stage core.code) i waked (ap (λ (p : Roster Tree). find i p.members) waked-shown ∙ plain-free i above)

      pub commit-room : count ≤ waked.room
      commit-room =
          let a : waked.room ≡ roomy.room = ap (λ (p : Roster M). p.room) waked_is ∙ all-woken-room ls roomy in
          let b : roomy.room ≡ max core.pool.room count = ap (λ (p : Roster M). p.room) roomy_is in omega (arith, a, b)

      module _ (joined : Roster M) (joined_is : shown joined ≡ with_newcomers core.next s.spawns (shown waked)) where
        joined-plain : shown joined ≡ with_newcomers core.next s.spawns (woken_for ls plain_roomy)
        joined-plain = joined_is ∙ ap (with_newcomers core.next s.spawns) waked-shown

        joined-shown : shown joined ≡ with_newcomers core.next s.spawns (woken_for ls parts.pool)
        joined-shown = joined-plain ∙ room-used core.next s.spawns ls parts.pool count count_is

        pub commit-busy : IsAt is_busy number joined
        commit-busy =
            let below = below-next parts whole.state.stands seat attempt is left' s.steps place.0 used are-valid ls seat number (ap member_of is) in
            let keeps =
            keeps-on plain_roomy (woken_for ls plain_roomy) (with_newcomers core.next s.spawns (woken_for ls plain_roomy)) number
            (woken-keeps ls plain_roomy number) (newcomers-keep core.next s.spawns (woken_for ls plain_roomy) plain-free number below) in
            busy-told (term_shown meaning.stage core.code) number joined
            (subst (IsAt (is_busy_as false) number) (sym joined-plain) (keeps.busy false its-runs.work.busy))

        -- all that the engine has then
        module _ (next-machine : M) (final : Roster M) (kept : meaning.stage core.code next-machine ≡ record s { spawns = [] })
            (ended : (meaning.stage core.code next-machine).want ≡ Some wants.Done → final ≡ removed number joined)
            (gone : (meaning.stage core.code next-machine).want ≡ Some wants.Leave
            → shown final ≡ exchanged number (meaning.stage core.code next-machine).term true (shown joined))
            (join-machine : meaning.is_machine core.code m → meaning.is_machine core.code next-machine)
            (join-rests : meaning.is_machine core.code m → All (IsAtRest meaning.is_machine meaning.stage core.code) waked.members → All (IsAtRest meaning.is_machine meaning.stage core.code) joined.members)
            (send-rests : meaning.is_machine core.code next-machine → All (IsAtRest meaning.is_machine meaning.stage core.code) joined.members
            → All (IsAtRest meaning.is_machine meaning.stage core.code) final.members)
            (memory : MemoryView V) (memory_is : memory ≡ released_all seat core.memory)
            (printed output prints : List ℤ) (prints_are : prints ≡ s.prints) (printed_is : printed ≡ core.output) (appends : output ≡ printed ++ prints)
            (written text added : List ℕ) (added_is : added ≡ lines s.prints) (written_is : written ≡ core.text) (writes : text ≡ written ++ added)
            (before entries : List Entry) (entry : Entry) (entry_is : entry ≡ ran_entry seat number s.steps (place_shown s))
            (before_is : before ≡ core.entries) (pushes : entries ≡ before ++ entry ∷ []) (next : ℕ) (next_is : next ≡ core.next + count) where
          rests : All (IsAtRest meaning.is_machine meaning.stage core.code) final.members
          rests =
              send-rests (join-machine machine')
              (join-rests machine'
              (subst (λ (p : Roster M). All (IsAtRest meaning.is_machine meaning.stage core.code) p.members) (sym waked_is)
              (woken-rest meaning.is_machine meaning.stage core.code ls roomy
              (subst (λ (p : Roster M). All (IsAtRest meaning.is_machine meaning.stage core.code) p.members) (sym roomy_is) whole.members))))

          abbrev after : Core C V M
          after = record core {
            entries = entries;
            memory = memory;
            tasks = slice_set core.tasks seat Task.Idle;
            pool = final;
            output = output;
            text = text;
            next = next;
            turns = core.turns + 1;
            counters = one_counted Counted.Commit core.counters;
          }

          output-is : output ≡ core.output ++ s.prints
          output-is = list-appended core.output printed output prints s.prints printed_is appends prints_are

          text-is : text ≡ lines output
          text-is = text-appended core.output output s.prints core.text written text added whole.text written_is writes added_is output-is

          entries-are : entries ≡ core.entries ++ ran_entry seat number s.steps (place_shown s) ∷ []
          entries-are = list-appended core.entries before entries (entry ∷ []) (ran_entry seat number s.steps (place_shown s) ∷ []) before_is pushes (ap (λ (e : Entry). e ∷ []) entry_is)

          next-is : next ≡ core.next + length s.spawns
          next-is = next_is ∙ ap (λ (n : ℕ). core.next + n) count_is

          memory-shown : shown_memory (meaning.value_of core.code) memory ≡ released_all seat parts.memory
          memory-shown = ap (shown_memory (meaning.value_of core.code)) memory_is ∙ release-shown (meaning.value_of core.code) seat core.memory

          parts-with : MemoryView Val → Roster Tree → List ℤ → List Entry → ℕ → Parts
          parts-with d p o es n = record parts {
            entries = es;
            memory = d;
            tasks = slice_set core.tasks seat Task.Idle;
            pool = p;
            output = o;
            next = n;
            turns = core.turns + 1;
          }

          -- the parts, by the pool
          parts-by : (pool : Roster Tree) → shown final ≡ pool → parts_of meaning after
              ≡ parts-with (released_all seat parts.memory) pool (core.output ++ s.prints)
              (core.entries ++ ran_entry seat number s.steps (place_shown s) ∷ []) (core.next + length s.spawns)
          unfolding parts-with
          parts-by pool e = λ i. parts-with (memory-shown i) (e i) (output-is i) (entries-are i) (next-is i)

          next-wants : (meaning.stage core.code next-machine).want ≡ s.want
          next-wants = ap (λ (x : MachineView). x.want) kept

          next-term : (meaning.stage core.code next-machine).term ≡ s.term
          next-term = ap (λ (x : MachineView). x.term) kept

          term-is : place.0.term ≡ s.term
          term-is = ap (λ (x : LocalState). x.term) place.2

          -- its member has ended
          module _ (done : s.want ≡ Some wants.Done) where
            pub ended-parts : parts_of meaning after ≡ ended_at seat number s parts
            unfolding parts-with
            ended-parts =
                parts-by (removed number (with_newcomers core.next s.spawns (woken_for ls parts.pool)))
                (ap shown (ended (next-wants ∙ done)) ∙ removed-shown (term_shown meaning.stage core.code) number joined ∙ ap (removed number) joined-shown)

            at-value : at_value (focus place.0.term) ≡ true
            at-value = ap (λ (t : Tree). at_value (focus t)) term-is ∙ (comes_as s Need.Done (sound'.told wants.Done done)).1

          -- or has come to `unprotected`
          module _ (leaves : s.want ≡ Some wants.Leave) where
            pub left-parts : parts_of meaning after ≡ left_at seat number s parts
            unfolding parts-with
            left-parts =
                parts-by (exchanged number s.term true (with_newcomers core.next s.spawns (woken_for ls parts.pool)))
                (gone (next-wants ∙ leaves)
                ∙ ap (λ (t : Tree). exchanged number t true (shown joined)) next-term ∙ ap (exchanged number s.term true) joined-shown)

            at-unprotected : at_unprotected (focus place.0.term) ≡ true
            at-unprotected = ap (λ (t : Tree). at_unprotected (focus t)) term-is ∙ (comes_as s Need.Leave (sound'.told wants.Leave leaves)).1

          -- so these may be
          going' : now.stop ≡ None → core.stop ≡ None
          going' = subst (λ (x : Core C V M). x.stop ≡ None) (sym view)

          may-end : now.stop ≡ None → s.want ≡ Some wants.Done → May (Event.End seat attempt s.steps place.0 (owned_places seat parts.memory.cells)) (state_of meaning core)
          may-end going done = (
            record { going = going' going; left = left' },
            record { task = is; used = used; more = commit-low },
            are-valid,
            at-value done,
            woken-there,
          )

          may-leave : now.stop ≡ None → s.want ≡ Some wants.Leave
              → May (Event.Leave seat attempt s.steps place.0 (owned_places seat parts.memory.cells)) (state_of meaning core)
          may-leave going leaves = (
            record { going = going' going; left = left' },
            record { task = is; used = used; more = commit-low },
            are-valid,
            at-unprotected leaves,
            woken-there,
          )

          pub makes-ended : now.stop ≡ None → (meaning.stage now.code m).want ≡ Some wants.Done → MakesAt meaning (meaning.stage now.code m) None
              (ends_at seat attempt (meaning.stage now.code m) (parts_of meaning now)) now after
          makes-ended going done =
              let done' : s.want ≡ Some wants.Done = subst (λ (x : Core C V M). (meaning.stage x.code m).want ≡ Some wants.Done) (sym view) done in
              subst (λ (x : Core C V M). MakesAt meaning (meaning.stage x.code m) None
              (ends_at seat attempt (meaning.stage x.code m) (parts_of meaning x)) x after) view
              (record {
                place = place.0;
                shows = place.2;
                makes = made-event meaning (one_counted Counted.Commit) (has_ended seat number s.steps place.0 (owned_places seat parts.memory.cells))
                    (Event.End seat attempt s.steps place.0 (owned_places seat parts.memory.cells)) core after refl refl (may-end going done')
                    (record {
                      code = refl;
                      parts = subst (λ (q : LocalState). parts_of meaning after ≡ has_ended seat number s.steps q (owned_places seat parts.memory.cells) parts) (sym place.2)
                          (ended-parts done');
                      counted = refl;
                      stop = refl;
                    });
              })

          pub makes-left : now.stop ≡ None → (meaning.stage now.code m).want ≡ Some wants.Leave → MakesAt meaning (meaning.stage now.code m) None
              (leaves_at seat attempt (meaning.stage now.code m) (parts_of meaning now)) now after
          makes-left going leaves =
              let leaves' : s.want ≡ Some wants.Leave = subst (λ (x : Core C V M). (meaning.stage x.code m).want ≡ Some wants.Leave) (sym view) leaves in
              subst (λ (x : Core C V M). MakesAt meaning (meaning.stage x.code m) None
              (leaves_at seat attempt (meaning.stage x.code m) (parts_of meaning x)) x after) view
              (record {
                place = place.0;
                shows = place.2;
                makes = made-event meaning (one_counted Counted.Commit) (has_left seat number s.steps place.0 (owned_places seat parts.memory.cells))
                    (Event.Leave seat attempt s.steps place.0 (owned_places seat parts.memory.cells)) core after refl refl (may-leave going leaves')
                    (record {
                      code = refl;
                      parts = subst (λ (q : LocalState). parts_of meaning after ≡ has_left seat number s.steps q (owned_places seat parts.memory.cells) parts) (sym place.2)
                          (left-parts leaves');
                      counted = refl;
                      stop = refl;
                    });
              })

          by-want : now.stop ≡ None → (s.want ≡ Some wants.Done) ⊎ (s.want ≡ Some wants.Leave) → (e : Event) × Makes meaning e now after
          by-want going (inl done) =
              let at = makes-ended going (subst (λ (x : Core C V M). (meaning.stage x.code m).want ≡ Some wants.Done) view done) in
              (ends_at seat attempt (meaning.stage now.code m) (parts_of meaning now) at.place, at.makes)
          by-want going (inr leaves) =
              let at = makes-left going (subst (λ (x : Core C V M). (meaning.stage x.code m).want ≡ Some wants.Leave) view leaves) in
              (leaves_at seat attempt (meaning.stage now.code m) (parts_of meaning now) at.place, at.makes)

          pub whole-committed : commits s.want ≡ true → now.stop ≡ None → IsSound meaning after
          whole-committed committing going =
              let event = by-want going (which-want s.want committing) in
              sound-next meaning core now after view whole event.0 event.1
              (subst (IsGoodMemory (meaning.is_value core.code) (IsRefForm (meaning.program core.code))) (sym memory_is)
              (memory-released (meaning.is_value core.code) (IsRefForm (meaning.program core.code)) seat core.memory whole.memory))
              rests text-is
