-- A machine is given what it wants on a visit.
use Rattle.std.proofs.Common.{◌≡◌, ℕ, ◌<◌, ◌⊎◌, inl, inr, true, false, List, [], length, Option, Some, None, IsSome, IfSome, option_map, refl, sym, ap, ◌∙◌, subst, arith}
use Rattle.std.specs.Prelude.{ℤ, slice_get, unwrap_or}
use Rattle.std.specs.Option.{ForSome}
use Rattle.std.proofs.lemmas.List.{length-map}
use Rattle.std.proofs.lemmas.Option.{slice_get-map, get_or_from_slice_get}
use Rattle.ame_term.specs.Tree.{Val}
use Rattle.ame_term.specs.Frame.{Side, side_told}
use Rattle.ame_term.specs.Context.{Focus}
use Rattle.ame_term.specs.Act.{Act}
use Rattle.ame_term.specs.declared.types.Loc.{Loc}
use Rattle.ame_term.specs.declared.types.Sort.{Sort}
use Rattle.ame_term.specs.declared.types.TyNo.{TyNo}
use Rattle.ame_device.specs.declared.told.Told.{Told}
use Rattle.ame_store.specs.declared.cell.Cell.{Cell}
use Rattle.ame_store.specs.Cells.{IsFree, CanGrow}
use Rattle.ame_machine.specs.Run.Local.{LocalState}
use Rattle.ame_rows.specs.Committed.{committed}
use Rattle.ame_rows.proofs.LookupLemmas.{all_at}
use Rattle.ame_protocol.specs.Row.Heap.{no_cell, cell_at, IsCell}
use Rattle.ame_protocol.specs.Row.SeatRun.{IsAtAct}
use Rattle.ame_protocol.specs.Row.Shown.{shown_cell}
use Rattle.ame_protocol.specs.Row.Free.{MeetsLive}
use Rattle.ame_machine.specs.declared.wants.Wants.{Wants}
use Rattle.ame_machine.specs.declared.wants.Wants.TheVariants as wants
use Rattle.ame_machine.specs.declared.wants.Input.TheVariants as input
use Rattle.ame_machine.specs.MachineView.{MachineView, place_shown}
use Rattle.ame_machine.specs.Need.{Need, need_of, need_told}
use Rattle.ame_machine.specs.Move.{after_input}
use Rattle.ame_machine.specs.Input.{is_wanted, value_to_set}
use Rattle.ame_machine.specs.Comes.{HasNextAct}
use Rattle.ame_machine.specs.Sound.{IsSoundStage}
use Rattle.ame_machine.specs.Acting.{takes_input}
use Rattle.ame_machine.proofs.NeedLemmas.{comes_as}
use Rattle.ame_machine.proofs.FeedLemmas.{fed-location}
use Rattle.ame_protocol.specs.declared.types.Task.{Task}
use Rattle.ame_protocol.specs.Engine.Parts.{Parts, heap_in, task_at, term_at}
use Rattle.ame_protocol.proofs.Engine.ShownMemoryLemmas.{committed-shown}
use Rattle.ame_protocol.proofs.Engine.ToldLemmas.{cells-grow, cells-few}
use Rattle.ame_protocol.specs.Visits.Visit.{StepsTo}
use Rattle.ame_protocol.proofs.Visits.PlaceLemmas.{alone, read-met, write-met, peek-met, free-there, in-place, some-there}
use Rattle.ame_engine.specs.declared.engine.free.change.CellChange.{CellChange}
use Rattle.ame_engine.specs.declared.engine.free.change.CellChange.TheVariants as changes
use Rattle.ame_engine.specs.Core.{Core}
use Rattle.ame_engine.specs.Seen.{parts_of}
use Rattle.ame_engine.specs.Whole.{IsSound}
use Rattle.ame_engine.specs.AtWork.{IsOnSeat, IsOn}
use Rattle.ame_engine.specs.Visiting.{IsVisiting, VisitsTo, HasMadeItsStep}
use Rattle.ame_engine.proofs.VisitPlaceLemmas.{visits-as, visit-steps}
use Rattle.ame_engine.proofs.VisitMemoryLemmas.{committed-good}
use Rattle.ame_machine.specs.Meaning.{Meaning}
use Rattle.ame_machine.specs.RefSorts.{IsRefForm, WantsRefForm}

some-before : {X Y : Type 0} (f : X → Y) (o : Option X) → IsSome (option_map f o) → IsSome o
some-before f None h = h
some-before f (Some x) h = h

the-some : {X : Type 0} (o : Option X) → IsSome o → (x : X) × (o ≡ Some x)
the-some None h = absurd (let clash : false ≡ true = h in cc)
the-some (Some x) h = (x, refl)

abbrev Reads : MachineView → Loc → Type 0
Reads s l = (s.want ≡ Some (wants.Read l)) ⊎ (s.want ≡ Some (wants.Peek l))

wanted-value : {V : Type 0} (s : MachineView) (l : Loc) (v : V) → Reads s l → is_wanted s.want (input.Value v) ≡ true
wanted-value s l v (inl e) = ap (λ (o : Option Wants). is_wanted o (input.Value v)) e
wanted-value s l v (inr e) = ap (λ (o : Option Wants). is_wanted o (input.Value v)) e

abbrev IsAccepted : MachineView → Type 0
IsAccepted s = (s.want ≡ Some wants.Spawn) ⊎ (((i : ℤ) × (s.want ≡ Some (wants.Print i))) ⊎ (s.want ≡ Some wants.Close))

wanted-unit : (V : Type 0) (s : MachineView) → IsAccepted s → is_wanted {V = V} s.want input.Unit ≡ true
wanted-unit V s (inl e) = ap (λ (o : Option Wants). is_wanted {V = V} o input.Unit) e
wanted-unit V s (inr (inl e)) = ap (λ (o : Option Wants). is_wanted {V = V} o input.Unit) e.1
wanted-unit V s (inr (inr e)) = ap (λ (o : Option Wants). is_wanted {V = V} o input.Unit) e

-- It is left at its place

module _ {C V M : Type 0} (meaning : Meaning C V M) (core : Core C V M) (m : M) where
  pub served-left : meaning.is_machine core.code m → takes_input (meaning.stage core.code m).want ≡ false
      → HasMadeItsStep meaning core m m changes.Stays
  served-left machine still = record { machine = machine; visits = λ told. VisitsTo.rests still; good = tt; fits = tt; lone = λ clash. absurd (none clash) }
    where
      none : false ≡ true → ⊥
      none e = cc

-- It is given what it wants

module _ {C V M : Type 0} (meaning : Meaning C V M) (same : V → V → Type 0)
    (keeps : (code : C) (v w : V) → same v w → meaning.is_value code v → meaning.is_value code w)
    (shows : (code : C) (v w : V) → same v w → meaning.value_of code v ≡ meaning.value_of code w)
    (core now : Core C V M) (view : core ≡ now) (whole : IsSound meaning core)
    (m : M) (on-now : (seat : ℕ) × IsOn meaning now seat m) (visiting : IsVisiting (meaning.stage now.code m))
    (sound : IsSoundStage (meaning.stage now.code m)) where
  abbrev parts : Parts
  parts = parts_of meaning core

  abbrev s : MachineView
  s = meaning.stage core.code m

  abbrev Served : Core C V M → M → CellChange V → Type 0
  Served x n change = HasMadeItsStep meaning x m n change

  abbrev seat : ℕ
  seat = on-now.0

  on : IsOnSeat parts seat s
  on = subst (λ (x : Core C V M). IsOnSeat (parts_of meaning x) on-now.0 (meaning.stage x.code m)) (sym view) on-now.1.stands

  inside : s.inside ≡ true
  inside = subst (λ (x : Core C V M). (meaning.stage x.code m).inside ≡ true) (sym view) visiting.inside

  sound' : IsSoundStage s
  sound' = subst (λ (x : Core C V M). IsSoundStage (meaning.stage x.code m)) (sym view) sound

  task : task_at parts.tasks seat ≡ Task.Free on.attempt
  task = visits-as parts seat s on inside

  steps : StepsTo parts on.attempt.tried.number s.steps (place_shown s)
  steps = visit-steps parts whole.state.stands seat s on inside

  stands-at : (act : Act) → HasNextAct s act → IsAtAct Side.Unprotected act (place_shown s)
  stands-at act at = record { redex = at.0; stands = at.1 ∙ ap (λ (z : Side). Focus.AtRedex z at.0) (ap side_told inside); acts = at.2 }

  need-there : (w : Wants) → s.want ≡ Some w → need_told w ≡ need_of s
  need-there w e = sound'.told w e

  -- The machine's want, in the engine as contracts see it.
  wants-here : (w : Wants) → (meaning.stage now.code m).want ≡ Some w → s.want ≡ Some w
  wants-here w e = subst (λ (x : Core C V M). (meaning.stage x.code m).want ≡ Some w) (sym view) e

  cells-are : length parts.memory.cells ≡ length core.memory.cells
  cells-are = length-map core.memory.cells (shown_cell (meaning.value_of core.code))

  -- It reads or peeks

  module _ (l : Loc) (wants-now : Reads (meaning.stage now.code m) l) where
    reads : Reads s l
    reads = subst (λ (x : Core C V M). Reads (meaning.stage x.code m) l) (sym view) wants-now

    some-shown : Reads s l → IsSome (committed parts.memory l.0)
    some-shown (inl e) =
        let c = comes_as s (Need.Read l.0) (need-there (wants.Read l) e) in
        let met = read-met parts whole.state.stands seat on.attempt task s.steps (place_shown s) steps l.0 (stands-at (Act.Reads l.0) c) in
        subst (λ (o : Option Val). IsSome o) (sym (in-place parts whole.state.stands l.0 met)) refl
    some-shown (inr e) =
        let c = comes_as s (Need.Peek l.0) (need-there (wants.Peek l) e) in
        some-there parts whole.state.stands l.0 (peek-met parts whole.state.stands seat on.attempt task s.steps (place_shown s) steps l.0 (stands-at (Act.Peeks l.0) c.1))

    pub some-core : IsSome (committed core.memory l.0)
    some-core =
        some-before (meaning.value_of core.code) (committed core.memory l.0) (subst (λ (o : Option Val). IsSome o) (committed-shown (meaning.value_of core.code) core.memory l.0) (some-shown reads))

    module _ (value : V) (copied : IfSome (committed core.memory l.0) (λ held. same held value)) where
      held : (x : V) × (committed core.memory l.0 ≡ Some x)
      held = the-some (committed core.memory l.0) some-core

      same-held : same held.0 value
      same-held = subst (λ (o : Option V). IfSome o (λ x. same x value)) held.1 copied

      pub given-wanted : is_wanted s.want (input.Value value) ≡ true
      given-wanted = wanted-value s l value reads

      pub given-good : meaning.is_value core.code value
      given-good =
          keeps core.code held.0 value same-held (committed-good (meaning.is_value core.code) (IsRefForm (meaning.program core.code)) core.memory l.0 held.0 whole.memory held.1)

      is-committed : committed parts.memory l.0 ≡ Some (meaning.value_of core.code value)
      is-committed =
          committed-shown (meaning.value_of core.code) core.memory l.0 ∙ ap (option_map (meaning.value_of core.code)) held.1
          ∙ ap Some (shows core.code held.0 value same-held)

      module _ (n : M) (machine : meaning.is_machine core.code n) (fed : after_input s.want (meaning.value_of core.code value) s ≡ Some (meaning.stage core.code n)) where
        visits-given : Reads s l → (told : List Told) → VisitsTo s parts.memory told None (meaning.stage core.code n) parts.memory told
        visits-given (inl e) told =
            VisitsTo.reads l (meaning.value_of core.code value) (meaning.stage core.code n) e is-committed
            (ap (λ (o : Option Wants). after_input o (meaning.value_of core.code value) s) (sym e) ∙ fed)
        visits-given (inr e) told =
            VisitsTo.peeks l (meaning.value_of core.code value) (meaning.stage core.code n) e is-committed
            (ap (λ (o : Option Wants). after_input o (meaning.value_of core.code value) s) (sym e) ∙ fed)

        pub served-given : HasMadeItsStep meaning now m n changes.Stays
        served-given =
            subst (λ (x : Core C V M). Served x n changes.Stays) view
            (record { machine = machine; visits = visits-given reads; good = tt; fits = tt; lone = λ clash. absurd (none clash) })
          where
            none : false ≡ true → ⊥
            none e = cc

  -- It writes

  module _ (l : Loc) (wants-now : (meaning.stage now.code m).want ≡ Some (wants.Write l)) where
    writes : s.want ≡ Some (wants.Write l)
    writes = wants-here (wants.Write l) wants-now

    write-need : (v : Val) × HasNextAct s (Act.Writes l.0 v)
    write-need = comes_as s (Need.Write l.0) (need-there (wants.Write l) writes)

    met : MeetsLive (heap_in parts) l.0 Sort.Unprotected
    met =
        write-met parts whole.state.stands seat on.attempt task s.steps (place_shown s) steps l.0 write-need.0 (stands-at (Act.Writes l.0 write-need.0) write-need.1)

    there : IsCell (heap_in parts) l.0
    there = met.there

    within : l.0 < length core.memory.cells
    within = subst (λ (n : ℕ). l.0 < n) cells-are there

    shown-there : (cell : Cell V) → slice_get core.memory.cells l.0 ≡ Some cell → slice_get parts.memory.cells l.0 ≡ Some (shown_cell (meaning.value_of core.code) cell)
    shown-there cell e = slice_get-map (shown_cell (meaning.value_of core.code)) core.memory.cells l.0 ∙ ap (option_map (shown_cell (meaning.value_of core.code))) e

    is-free : ForSome (slice_get core.memory.cells l.0) IsFree
    is-free = λ cell e.
        let is : cell_at (heap_in parts) l.0 ≡ shown_cell (meaning.value_of core.code) cell =
        get_or_from_slice_get parts.memory.cells l.0 (shown_cell (meaning.value_of core.code) cell) no_cell (shown-there cell e) in
        sym (ap (λ (x : Cell Val). x.owner) is) ∙ free-there parts whole.state.stands l.0 met

    grows : ForSome (slice_get core.memory.cells l.0) CanGrow
    grows = λ cell e.
        all_at CanGrow parts.memory.cells l.0 (shown_cell (meaning.value_of core.code) cell) there (shown-there cell e)
        (cells-grow parts whole.state.stands (let h = whole.limits.turns in omega arith))

    module _ (lent value : V) (lent-good : meaning.is_value core.code lent) (sets : value_to_set s ≡ Some (meaning.value_of core.code lent)) (copied : same lent value)
        (n : M) (machine : meaning.is_machine core.code n) (fed : after_input s.want Val.Unit s ≡ Some (meaning.stage core.code n)) where
      pub served-written : HasMadeItsStep meaning now m n (changes.Puts l value)
      served-written =
          subst (λ (x : Core C V M). Served x n (changes.Puts l value)) view
          (record {
            machine = machine;
            visits =
                λ told. VisitsTo.writes l (meaning.value_of core.code value) (meaning.stage core.code n) writes (sets ∙ ap Some (shows core.code lent value copied))
                (ap (λ (o : Option Wants). after_input o Val.Unit s) (sym writes) ∙ fed);
            good = keeps core.code lent value copied lent-good;
            fits = (within, is-free, grows);
            lone = λ clash. absurd (none clash);
          })
        where
          none : false ≡ true → ⊥
          none e = cc

  -- It makes a cell

  module _ (sort : Sort) (number : TyNo) (wants-now : (meaning.stage now.code m).want ≡ Some (wants.Alloc sort number))
      (form : WantsRefForm (meaning.program now.code) (meaning.stage now.code m).want) where
    form-there : IsRefForm (meaning.program core.code) sort number.0
    form-there = subst (λ (c : C). IsRefForm (meaning.program c) sort number.0) (ap (λ (x : Core C V M). x.code) (sym view))
        (subst (WantsRefForm (meaning.program now.code)) wants-now form)

    allocates : s.want ≡ Some (wants.Alloc sort number)
    allocates = wants-here (wants.Alloc sort number) wants-now

    nothing-held : s.spawns ≡ []
    nothing-held =
        ap (λ (p : LocalState). p.spawns) (alone (term_at parts.pool on.attempt.tried.number) s.steps (place_shown s) steps)

    module _ (lent value : V) (lent-good : meaning.is_value core.code lent) (sets : value_to_set s ≡ Some (meaning.value_of core.code lent)) (copied : same lent value)
        (place : ℕ) (place-is : place ≡ length core.memory.cells)
        (n : M) (machine : meaning.is_machine core.code n) (fed : after_input s.want (Val.Loc place) s ≡ Some (meaning.stage core.code n)) where
      at-end : place ≡ length parts.memory.cells
      at-end = place-is ∙ sym cells-are

      fed-alloc : after_input (Some (wants.Alloc sort number)) (Val.Loc (length parts.memory.cells)) s ≡ Some (meaning.stage core.code n)
      fed-alloc =
          ap (λ (o : Option Wants). after_input o (Val.Loc (length parts.memory.cells)) s) (sym allocates)
          ∙ ap (λ (k : ℕ). after_input s.want (Val.Loc k) s) (sym at-end) ∙ fed

      none-made : (meaning.stage core.code n).spawns ≡ []
      none-made =
          let l : Loc = record { 0 = length parts.memory.cells } in
          let is = fed-location V s (wants.Alloc sort number) l (need-there (wants.Alloc sort number) allocates) refl in
          ap (λ (o : Option MachineView). (unwrap_or o (meaning.stage core.code n)).spawns) (sym fed-alloc ∙ is) ∙ nothing-held

      pub served-made : HasMadeItsStep meaning now m n (changes.Makes sort number value)
      served-made =
          subst (λ (x : Core C V M). Served x n (changes.Makes sort number value)) view
          (record {
            machine = machine;
            visits =
                λ told. VisitsTo.makes sort number (meaning.value_of core.code value) (meaning.stage core.code n) allocates (sets ∙ ap Some (shows core.code lent value copied)) fed-alloc;
            good = (keeps core.code lent value copied lent-good, form-there);
            fits = subst (λ (k : ℕ). k < 4294967295) cells-are (cells-few parts whole.state.stands whole.limits.turns);
            lone = λ _. none-made;
          })

  -- It spawns, prints or closes

  pub accepted-here : IsAccepted (meaning.stage now.code m) → IsAccepted s
  accepted-here wants-now = subst (λ (x : Core C V M). IsAccepted (meaning.stage x.code m)) (sym view) wants-now

  pub accepted-wanted : IsAccepted (meaning.stage now.code m) → is_wanted {V = V} s.want input.Unit ≡ true
  accepted-wanted wants-now = wanted-unit V s (accepted-here wants-now)

  module _ (wants-now : IsAccepted (meaning.stage now.code m)) (n : M) (machine : meaning.is_machine core.code n)
      (fed : after_input s.want Val.Unit s ≡ Some (meaning.stage core.code n)) where
    fed-as : (w : Wants) → s.want ≡ Some w → after_input (Some w) Val.Unit s ≡ Some (meaning.stage core.code n)
    fed-as w e = ap (λ (o : Option Wants). after_input o Val.Unit s) (sym e) ∙ fed

    visits-accepted : IsAccepted s → (told : List Told) → VisitsTo s parts.memory told None (meaning.stage core.code n) parts.memory told
    visits-accepted (inl e) told = VisitsTo.spawns (meaning.stage core.code n) e (fed-as wants.Spawn e)
    visits-accepted (inr (inl e)) told = VisitsTo.prints e.0 (meaning.stage core.code n) e.1 (fed-as (wants.Print e.0) e.1)
    visits-accepted (inr (inr e)) told = VisitsTo.closes (meaning.stage core.code n) e (fed-as wants.Close e)

    pub served-accepted : HasMadeItsStep meaning now m n changes.Stays
    served-accepted =
        subst (λ (x : Core C V M). Served x n changes.Stays) view
        (record { machine = machine; visits = visits-accepted (accepted-here wants-now); good = tt; fits = tt; lone = λ clash. absurd (none clash) })
      where
        none : false ≡ true → ⊥
        none e = cc
