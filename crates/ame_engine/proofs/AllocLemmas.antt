-- A seat makes a cell.
use Rattle.std.proofs.Common.{◌≡◌, ℕ, ◌+◌, ◌<◌, false, length, Option, Some, refl, sym, ap, ◌∙◌, subst, None}
use Rattle.std.specs.Prelude.{unwrap_or}
use Rattle.std.proofs.lemmas.List.{length-map}
use Rattle.std.proofs.lemmas.List.Elements.{All-push, All-set}
use Rattle.ame_term.specs.Tree.{Val}
use Rattle.ame_term.specs.Act.{Act}
use Rattle.ame_term.specs.declared.types.Sort.{Sort}
use Rattle.ame_term.specs.declared.types.TyNo.{TyNo}
use Rattle.ame_journal.specs.Replay.{redex_act}
use Rattle.ame_store.specs.declared.cell.Cell.{Cell}
use Rattle.ame_store.specs.Changes.{made}
use Rattle.ame_rows.specs.declared.notes.Undo.TheVariants.{Made}
use Rattle.ame_rows.specs.MemoryView.{MemoryView, row_at}
use Rattle.ame_rows.specs.Access.{next_place, allocated_by}
use Rattle.ame_protocol.specs.Row.Shown.{shown_cell}
use Rattle.ame_machine.specs.declared.wants.Wants.{Wants}
use Rattle.ame_machine.specs.declared.wants.Wants.TheVariants as wants
use Rattle.ame_machine.specs.MachineView.{MachineView}
use Rattle.ame_machine.specs.Need.{Need, need_of}
use Rattle.ame_machine.specs.Input.{value_set, value_to_set}
use Rattle.ame_machine.specs.Comes.{HasNextAct}
use Rattle.ame_machine.specs.Sound.{IsSoundStage, CanRun}
use Rattle.ame_machine.specs.RefSorts.{IsRefForm, WantsRefForm}
use Rattle.ame_machine.proofs.NeedLemmas.{comes_as}
use Rattle.ame_protocol.specs.Engine.Parts.{Parts}
use Rattle.ame_protocol.specs.Engine.Shown.{shown_memory}
use Rattle.ame_protocol.specs.Engine.Events.{has_allocated}
use Rattle.ame_protocol.proofs.Engine.ShownMemoryLemmas.{allocation-shown}
use Rattle.ame_engine.specs.Core.{Core}
use Rattle.ame_protocol.specs.Event.Counting.{Counted, one_counted}
use Rattle.ame_protocol.specs.Event.Event.{Event}
use Rattle.ame_protocol.specs.Event.May.{May}
use Rattle.ame_engine.specs.Seen.{parts_of}
use Rattle.ame_engine.specs.Makes.{state_of, Makes}
use Rattle.ame_engine.specs.Whole.{IsGoodUndo, IsGoodLog, IsGoodMemory, IsSound}
use Rattle.ame_engine.specs.AtWork.{IsOnSeat, IsOn}
use Rattle.ame_engine.proofs.MakesLemmas.{made-event}
use Rattle.ame_engine.proofs.ReadLemmas.{row-good, has-come}
use Rattle.ame_engine.proofs.RunLemmas.{can-run}
use Rattle.ame_machine.specs.Meaning.{Meaning}
use Rattle.ame_engine.proofs.SoundLemmas.{sound-next}

-- The sort and the form of the cell that is wanted

sort-wanted : Option Wants → Sort → Sort
sort-wanted (Some (wants.Alloc sort number)) d = sort
sort-wanted _ d = d

number-wanted : Option Wants → TyNo → TyNo
number-wanted (Some (wants.Alloc sort number)) d = number
number-wanted _ d = d

-- Good values

module _ {V : Type 0} (IsGood : V → Type 0) (IsForm : Sort → ℕ → Type 0) (seat : ℕ) (sort : Sort) (number : TyNo) (value input : V) (good : IsGood value) (form : IsForm sort number.0)
    (good-input : IsGood input) where
  memory-good : (c : MemoryView V) → IsGoodMemory IsGood IsForm c → IsGoodMemory IsGood IsForm (allocated_by seat sort number value input c)
  memory-good c whole =
      let row = row_at c.rows seat in
      let its = row-good IsGood c.rows seat whole.rows in
      record {
        cells = All-push (λ (cell : Cell V). IsGood cell.value) c.cells (made sort number value (Some seat)) whole.cells good;
        forms = All-push (λ (cell : Cell V). IsForm cell.sort cell.ty.0) c.cells (made sort number value (Some seat)) whole.forms form;
        rows = All-set (IsGoodLog IsGood) c.rows seat _ (record {
          inputs = All-push IsGood row.inputs input its.inputs good-input;
          undos = All-push (IsGoodUndo IsGood) row.undos (Made (next_place c.cells)) its.undos tt;
        }) whole.rows;
      }

-- The whole engine

module _ {C V M : Type 0} (meaning : Meaning C V M) (same : V → V → Type 0)
    (keeps : (code : C) (v w : V) → same v w → meaning.is_value code v → meaning.is_value code w)
    (shows : (code : C) (v w : V) → same v w → meaning.value_of code v ≡ meaning.value_of code w)
    (core now : Core C V M) (view : core ≡ now) (whole : IsSound meaning core)
    (seat : ℕ) (m : M) (sort : Sort) (number : TyNo) (on : IsOn meaning now seat m)
    (outside : (meaning.stage now.code m).inside ≡ false) (wants-it : (meaning.stage now.code m).want ≡ Some (wants.Alloc sort number))
    (sound : IsSoundStage (meaning.stage now.code m)) (form : WantsRefForm (meaning.program now.code) (meaning.stage now.code m).want) where
  abbrev parts : Parts
  parts = parts_of meaning core

  abbrev s : MachineView
  s = meaning.stage core.code m

  on' : IsOnSeat parts seat s
  on' = subst (λ (x : Core C V M). IsOnSeat (parts_of meaning x) seat (meaning.stage x.code m)) (sym view) on.stands

  outside' : s.inside ≡ false
  outside' = subst (λ (x : Core C V M). (meaning.stage x.code m).inside ≡ false) (sym view) outside

  form' : IsRefForm (meaning.program core.code) sort number.0
  form' = subst (λ (c : C). IsRefForm (meaning.program c) sort number.0) (ap (λ (x : Core C V M). x.code) (sym view))
      (subst (WantsRefForm (meaning.program now.code)) wants-it form)

  need' : Need.Alloc sort number ≡ need_of s
  need' = subst (λ (x : Core C V M). Need.Alloc sort number ≡ need_of (meaning.stage x.code m)) (sym view) (sound.told (wants.Alloc sort number) wants-it)

  next-act : (v : Val) × HasNextAct s (Act.Allocates sort number v)
  next-act = comes_as s (Need.Alloc sort number) need'

  same-count : length parts.memory.cells ≡ length core.memory.cells
  same-count = length-map core.memory.cells (shown_cell (meaning.value_of core.code))

  module _ (left : now.turns < now.limits.turns) (lent value input : V) (lent-good : meaning.is_value core.code lent) (sets : value_to_set s ≡ Some (meaning.value_of core.code lent))
      (copied : same lent value) (input-good : meaning.is_value core.code input) (place : ℕ) (stands-for : meaning.value_of core.code input ≡ Val.Loc place)
      (place-is : place ≡ length core.memory.cells) (memory : MemoryView V) (is : memory ≡ allocated_by seat sort number value input core.memory) where
    left' : core.turns < core.limits.turns
    left' = subst (λ (x : Core C V M). x.turns < x.limits.turns) (sym view) left

    value-is : next-act.0 ≡ meaning.value_of core.code value
    value-is =
        let next : value_to_set s ≡ Some next-act.0 = ap value_set (ap redex_act next-act.1.1 ∙ ap (λ (a : Act). Some a) next-act.1.2) in
        ap (λ (o : Option Val). unwrap_or o next-act.0) (sym next ∙ sets) ∙ shows core.code lent value copied

    input-is : meaning.value_of core.code input ≡ Val.Loc (length parts.memory.cells)
    input-is = stands-for ∙ ap Val.Loc (place-is ∙ sym same-count)

    abbrev after : Core C V M
    after = record core { memory = memory; turns = core.turns + 1; counters = one_counted Counted.Alloc core.counters }

    turned : MemoryView Val → Parts
    turned d = record parts { memory = d; turns = parts.turns + 1 }

    parts-allocated : parts_of meaning after ≡ has_allocated seat sort number (meaning.value_of core.code value) parts
    unfolding turned
    parts-allocated =
        ap turned
        (ap (shown_memory (meaning.value_of core.code)) is ∙ allocation-shown (meaning.value_of core.code) seat sort number value input core.memory
        ∙ ap (λ (u : Val). allocated_by seat sort number (meaning.value_of core.code value) u parts.memory) input-is)

    -- so the seat may make it
    may-allocate : now.stop ≡ None → (meaning.stage now.code m).since < now.limits.slice
        → May (Event.Alloc seat sort number (meaning.value_of core.code value)) (state_of meaning core)
    may-allocate going early = subst (λ (v : Val). May (Event.Alloc seat sort number v) (state_of meaning core)) value-is (
      record { going = subst (λ (x : Core C V M). x.stop ≡ None) (sym view) going; left = left' },
      has-come (state_of meaning core) seat s on' (Act.Allocates sort number next-act.0) outside' next-act.1
          (subst (λ (x : Core C V M). (meaning.stage x.code m).since < x.limits.slice) (sym view) early),
    )

    makes-it : now.stop ≡ None → (meaning.stage now.code m).since < now.limits.slice
        → Makes meaning (Event.Alloc seat sort number (meaning.value_of core.code value)) now after
    makes-it going early =
        subst (λ (x : Core C V M). Makes meaning (Event.Alloc seat sort number (meaning.value_of core.code value)) x after) view
        (made-event meaning (one_counted Counted.Alloc) (has_allocated seat sort number (meaning.value_of core.code value))
        (Event.Alloc seat sort number (meaning.value_of core.code value)) core after refl refl (may-allocate going early)
        (record { code = refl; parts = parts-allocated; counted = refl; stop = refl }))

    -- The event for any sort and number that the machine wants.
    pub makes-allocated : now.stop ≡ None → (meaning.stage now.code m).since < now.limits.slice → (t : Sort) (n : TyNo) (v : Val)
        → (meaning.stage now.code m).want ≡ Some (wants.Alloc t n) → value_to_set (meaning.stage now.code m) ≡ Some v
        → Makes meaning (Event.Alloc seat t n v) now after
    unfolding sort-wanted number-wanted
    makes-allocated going early t n v e set =
        let sets-now : value_to_set (meaning.stage now.code m) ≡ Some (meaning.value_of core.code value) =
        subst (λ (x : Core C V M). value_to_set (meaning.stage x.code m) ≡ Some (meaning.value_of core.code value)) view (sets ∙ ap Some (shows core.code lent value copied)) in
        let one-value : meaning.value_of core.code value ≡ v = ap (λ (o : Option Val). unwrap_or o v) (sym sets-now ∙ set) in
        let one-sort : sort ≡ t = ap (λ (w : Option Wants). sort-wanted w sort) (sym wants-it ∙ e) in
        let one-number : number ≡ n = ap (λ (w : Option Wants). number-wanted w number) (sym wants-it ∙ e) in
        subst (λ (x : Val). Makes meaning (Event.Alloc seat t n x) now after) one-value
        (subst (λ (x : Sort). Makes meaning (Event.Alloc seat x n (meaning.value_of core.code value)) now after) one-sort
        (subst (λ (x : TyNo). Makes meaning (Event.Alloc seat sort x (meaning.value_of core.code value)) now after) one-number (makes-it going early)))

    pub whole-allocated : now.stop ≡ None → (meaning.stage now.code m).since < now.limits.slice → IsSound meaning after
    whole-allocated going early =
        sound-next meaning core now after view whole (Event.Alloc seat sort number (meaning.value_of core.code value)) (makes-it going early)
        (subst (IsGoodMemory (meaning.is_value core.code) (IsRefForm (meaning.program core.code))) (sym is)
        (memory-good (meaning.is_value core.code) (IsRefForm (meaning.program core.code)) seat sort number value input (keeps core.code lent value copied lent-good) form' input-good core.memory whole.memory))
        whole.members whole.text

    pub runs-allocated : now.stop ≡ None → (meaning.stage now.code m).since < now.limits.slice → (t : MachineView) → IsOnSeat (parts_of meaning after) seat t → t.inside ≡ false → CanRun t
    runs-allocated going early t stands out = can-run (parts_of meaning after) (whole-allocated going early).state.stands seat t stands out
