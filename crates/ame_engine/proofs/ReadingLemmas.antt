-- A seat's read, by the contract of the memory's call.
use Rattle.std.proofs.Common.{◌≡◌, ℕ, ◌+◌, ◌<◌, false, length, All, Option, Some, refl, sym, ap, ◌∙◌, subst, None}
use Rattle.std.specs.Prelude.{slice_get}
use Rattle.std.specs.Option.{ForSome}
use Rattle.ame_term.specs.Tree.{Val}
use Rattle.ame_term.specs.declared.types.Loc.{Loc}
use Rattle.ame_laws.specs.Typed.StoreTyping.{StoreTyping}
use Rattle.ame_laws.specs.Typed.Fragment.{IsValueOf}
use Rattle.ame_laws.specs.Typed.TypedState.{IsStored}
use Rattle.ame_store.specs.declared.cell.Cell.{Cell}
use Rattle.ame_store.specs.Cells.{HasItsParity}
use Rattle.ame_rows.specs.MemoryView.{MemoryView, row_at, by_seat}
use Rattle.ame_rows.specs.Access.{IsRead}
use Rattle.ame_rows.proofs.LookupLemmas.{get_there, all_at}
use Rattle.ame_protocol.specs.Row.Heap.{cell_at}
use Rattle.ame_protocol.specs.Row.TypedHeap.{IsTypedHeap}
use Rattle.ame_machine.specs.declared.wants.Wants.{Wants}
use Rattle.ame_machine.specs.declared.wants.Wants.TheVariants as wants
use Rattle.ame_machine.specs.MachineView.{MachineView}
use Rattle.ame_machine.specs.Need.{Need, need_of}
use Rattle.ame_machine.specs.Sound.{IsSoundStage, CanRun}
use Rattle.ame_protocol.specs.Engine.Parts.{heap_in}
use Rattle.ame_protocol.specs.Engine.Events.{has_read}
use Rattle.ame_engine.specs.Core.{Core}
use Rattle.ame_protocol.specs.Event.Counting.{Counted, one_counted}
use Rattle.ame_protocol.specs.Event.Event.{Event}
use Rattle.ame_engine.specs.Seen.{parts_of}
use Rattle.ame_engine.specs.Makes.{Makes}
use Rattle.ame_engine.specs.Whole.{IsSound, IsGoodMemory}
use Rattle.ame_engine.specs.AtWork.{IsOnSeat, IsOn}
use Rattle.ame_engine.proofs.MakesLemmas.{made-event}
use Rattle.ame_engine.proofs.ReadLemmas.{read-cell, read-within, in-place, read-parts, may-read, read-memory}
use Rattle.ame_engine.proofs.RunLemmas.{can-run}
use Rattle.ame_machine.specs.Meaning.{Meaning}
use Rattle.ame_machine.specs.RefSorts.{IsRefForm}
use Rattle.ame_engine.proofs.SoundLemmas.{sound-next}

-- the location that is wanted to be read
read-at : Option Wants → Loc → Loc
read-at (Some (wants.Read l)) d = l
read-at _ d = d

read-same : (l k : Loc) (o : Option Wants) → o ≡ Some (wants.Read l) → o ≡ Some (wants.Read k) → l ≡ k
unfolding read-at
read-same l k o e f = ap (λ (w : Option Wants). read-at w l) (sym e ∙ f)

module _ {C V M : Type 0} (meaning : Meaning C V M) (same : V → V → Type 0)
    (keeps : (code : C) (v w : V) → same v w → meaning.is_value code v → meaning.is_value code w)
    (shows : (code : C) (v w : V) → same v w → meaning.value_of code v ≡ meaning.value_of code w)
    (core now : Core C V M) (view : core ≡ now) (whole : IsSound meaning core)
    (seat : ℕ) (m : M) (l : Loc) (on : IsOn meaning now seat m)
    (outside : (meaning.stage now.code m).inside ≡ false) (told : (meaning.stage now.code m).want ≡ Some (wants.Read l))
    (sound : IsSoundStage (meaning.stage now.code m)) where
  on' : IsOnSeat (parts_of meaning core) seat (meaning.stage core.code m)
  on' = subst (λ (x : Core C V M). IsOnSeat (parts_of meaning x) seat (meaning.stage x.code m)) (sym view) on.stands

  outside' : (meaning.stage core.code m).inside ≡ false
  outside' = subst (λ (x : Core C V M). (meaning.stage x.code m).inside ≡ false) (sym view) outside

  need' : Need.Read l.0 ≡ need_of (meaning.stage core.code m)
  need' = subst (λ (x : Core C V M). Need.Read l.0 ≡ need_of (meaning.stage x.code m)) (sym view) (sound.told (wants.Read l) told)

  pub read-location : l.0 < length core.memory.cells
  read-location = read-within meaning core whole seat m l on' outside' need'

  module _ (left : now.turns < now.limits.turns) (value : V) (memory : MemoryView V)
      (gives : ForSome (slice_get core.memory.cells l.0) (λ cell. same cell.value value))
      (row : IsRead same seat l core.memory.cells (row_at core.memory.rows seat) (row_at memory.rows seat))
      (others : memory ≡ by_seat seat core.memory.cells (row_at memory.rows seat) core.memory) where
    abbrev after : Core C V M
    after = record core { memory = memory; turns = core.turns + 1; counters = one_counted Counted.Read core.counters }

    there : (cell : Cell V) × (slice_get core.memory.cells l.0 ≡ Some cell)
    there = get_there core.memory.cells l.0 read-location

    after-is : after ≡ record core { memory = by_seat seat core.memory.cells (row_at memory.rows seat) core.memory; turns = core.turns + 1; counters = one_counted Counted.Read core.counters }
    after-is = λ i. record core { memory = others i; turns = core.turns + 1; counters = one_counted Counted.Read core.counters }

    left' : core.turns < core.limits.turns
    left' = subst (λ (x : Core C V M). x.turns < x.limits.turns) (sym view) left

    shows' : (v w : V) → same v w → meaning.value_of core.code w ≡ meaning.value_of core.code v
    shows' v w h = sym (shows core.code v w h)

    makes-it : now.stop ≡ None → (meaning.stage now.code m).since < now.limits.slice → All HasItsParity core.memory.cells → Makes meaning (Event.Read seat l) now after
    makes-it going early parity =
        subst (λ (x : Core C V M). Makes meaning (Event.Read seat l) x after) view
        (subst (Makes meaning (Event.Read seat l) core) (sym after-is)
        (made-event meaning (one_counted Counted.Read) (has_read seat l) (Event.Read seat l) core _ refl refl
        (may-read meaning core whole seat m l on' outside' need' left' same shows' (keeps core.code) (row_at memory.rows seat) row
        (subst (λ (x : Core C V M). x.stop ≡ None) (sym view) going)
        (subst (λ (x : Core C V M). (meaning.stage x.code m).since < x.limits.slice) (sym view) early) parity)
        (record {
          code = refl;
          parts = read-parts meaning core whole seat m l on' outside' need' left' same shows' (keeps core.code)
              (row_at memory.rows seat) row;
          counted = refl;
          stop = refl;
        })))

    pub makes-read : now.stop ≡ None → (meaning.stage now.code m).since < now.limits.slice → All HasItsParity core.memory.cells
        → (k : Loc) → (meaning.stage now.code m).want ≡ Some (wants.Read k) → Makes meaning (Event.Read seat k) now after
    makes-read going early parity k e =
        subst (λ (x : Loc). Makes meaning (Event.Read seat x) now after) (read-same l k (meaning.stage now.code m).want told e) (makes-it going early parity)

    pub whole-read : now.stop ≡ None → (meaning.stage now.code m).since < now.limits.slice → All HasItsParity core.memory.cells
        → IsSound meaning after
    whole-read going early parity =
        sound-next meaning core now after view whole (Event.Read seat l) (makes-it going early parity)
        (subst (IsGoodMemory (meaning.is_value core.code) (IsRefForm (meaning.program core.code))) (sym others)
        (read-memory meaning core whole seat m l on' outside' need' left' same shows' (keeps core.code) (row_at memory.rows seat) row))
        whole.members whole.text

    good-value : meaning.is_value core.code value
    good-value = keeps core.code there.0.value value (gives there.0 there.1)
        (all_at (λ (cell : Cell V). meaning.is_value core.code cell.value) core.memory.cells l.0 there.0 read-location there.1 whole.memory.cells)

    in-core : meaning.value_of core.code value ≡ (cell_at (heap_in (parts_of meaning core)) l.0).value
    in-core =
        shows' there.0.value value (gives there.0 there.1)
        ∙ sym (in-place meaning core whole seat m l on' outside' need' there.0 there.1)

    pub value-read : (k : Loc) → (meaning.stage now.code m).want ≡ Some (wants.Read k)
        → meaning.value_of now.code value ≡ (cell_at (heap_in (parts_of meaning now)) k.0).value
    value-read k e =
        subst (λ (x : Loc). meaning.value_of now.code value ≡ (cell_at (heap_in (parts_of meaning now)) x.0).value)
        (read-same l k (meaning.stage now.code m).want told e)
        (subst (λ (x : Core C V M). meaning.value_of x.code value ≡ (cell_at (heap_in (parts_of meaning x)) l.0).value) view in-core)

    -- it is of the type of its location, by whatever types the cells are typed
    abbrev IsTypedThere : Core C V M → Loc → Type 0
    IsTypedThere x k = (types : StoreTyping) → IsTypedHeap (meaning.signature x.code) types (heap_in (parts_of meaning x))
        → IsStored (meaning.signature x.code) types k.0 (meaning.value_of x.code value)

    typed-core : IsTypedThere core l
    typed-core types heap =
        let its = heap.typed l.0 (read-cell meaning core whole seat m l on' outside' need') in
        (_, its.1, subst (λ (v : Val). IsValueOf (meaning.signature core.code) types v its.0) (sym in-core) its.2)

    pub typed-read : (k : Loc) → (meaning.stage now.code m).want ≡ Some (wants.Read k) → IsTypedThere now k
    typed-read k e =
        subst (IsTypedThere now) (read-same l k (meaning.stage now.code m).want told e) (subst (λ (x : Core C V M). IsTypedThere x l) view typed-core)

    pub good-read : meaning.is_value now.code value
    good-read = subst (λ (x : Core C V M). meaning.is_value x.code value) view good-value

    pub runs-read : now.stop ≡ None → (meaning.stage now.code m).since < now.limits.slice → All HasItsParity core.memory.cells → (s : MachineView) → IsOnSeat (parts_of meaning after) seat s → s.inside ≡ false → CanRun s
    runs-read going early parity s stands out = can-run (parts_of meaning after) (whole-read going early parity).state.stands seat s stands out
