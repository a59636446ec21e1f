-- A machine that was fed what its event gave is at work.
use Rattle.std.proofs.Common.{◌≡◌, ℕ, ◌+◌, ◌<◌, ◌≤◌, ◌⊎◌, inl, inr, Bool, false, cond, length, Option, Some, None, refl, sym, ap, ◌∙◌, subst, arith}
use Rattle.std.proofs.lemmas.List.{length-map}
use Rattle.std.proofs.lemmas.Bool.{ne_eqb}
use Rattle.ame_protocol.specs.Row.Shown.{shown_cell}
use Rattle.ame_protocol.proofs.Row.CellLemmas.{which}
use Rattle.ame_term.specs.Tree.{Val}
use Rattle.ame_term.specs.Act.{Act}
use Rattle.ame_term.specs.declared.types.Loc.{Loc}
use Rattle.ame_term.specs.declared.types.Sort.{Sort}
use Rattle.ame_term.specs.declared.types.TyNo.{TyNo}
use Rattle.ame_store.specs.Cells.{IsFree, IsOwnedBy}
use Rattle.ame_protocol.specs.Row.Heap.{cell_at, IsCell}
use Rattle.ame_machine.specs.declared.wants.Wants.{Wants}
use Rattle.ame_machine.specs.declared.wants.Wants.TheVariants as wants
use Rattle.ame_machine.specs.MachineView.{MachineView}
use Rattle.ame_machine.specs.Need.{Need, need_of}
use Rattle.ame_machine.specs.Move.{fed_stage, after_input}
use Rattle.ame_machine.specs.Comes.{HasNextAct}
use Rattle.ame_machine.specs.Sound.{IsSoundStage}
use Rattle.ame_machine.proofs.NeedLemmas.{comes_as}
use Rattle.ame_machine.proofs.MoveLemmas.{fed-to}
use Rattle.ame_protocol.specs.declared.types.Limits.{Limits}
use Rattle.ame_protocol.specs.declared.types.Task.{Task}
use Rattle.ame_protocol.specs.Engine.Parts.{Parts, heap_in, task_at}
use Rattle.ame_protocol.specs.Engine.Simulates.{Simulates}
use Rattle.ame_protocol.specs.Engine.Events.{has_read, has_written, has_allocated}
use Rattle.ame_protocol.proofs.Engine.AccessLemmas.{within, read-there, write-there}
use Rattle.ame_protocol.specs.declared.counters.Counters.{Counters}
use Rattle.ame_protocol.specs.Event.Counting.{Counted, one_counted}
use Rattle.ame_engine.specs.declared.answer.Wrote.{Wrote}
use Rattle.ame_engine.specs.declared.answer.Wrote.TheVariants as answer
use Rattle.ame_engine.specs.Writing.{answer_to_write}
use Rattle.ame_engine.specs.Core.{Core}
use Rattle.ame_protocol.specs.Event.Event.{Event}
use Rattle.ame_engine.specs.Makes.{Makes}
use Rattle.ame_engine.specs.Seen.{parts_of, MakesEvent}
use Rattle.ame_engine.proofs.MakesLemmas.{read-made, written-made, allocated-made}
use Rattle.ame_engine.specs.AtWork.{IsOnSeat}
use Rattle.ame_engine.proofs.ReadLemmas.{runs-as, comes-to}
use Rattle.ame_shell.specs.Low.{IsLowOnSeat}
use Rattle.ame_shell.specs.Work.{IsAtWork}
use Rattle.ame_shell.proofs.RestLemmas.{at-work}
use Rattle.ame_shell.proofs.FedLemmas.{read-fed, write-fed, alloc-fed}
use Rattle.ame_machine.specs.Meaning.{Meaning}

module _ (parts : Parts) (seat : ℕ) (s t : MachineView) (stands : Simulates parts) (x : IsLowOnSeat parts seat s) (outside : s.inside ≡ false) where
  abbrev on : IsOnSeat parts seat s
  on = x.on

  task : task_at parts.tasks seat ≡ Task.Running on.attempt
  task = runs-as parts seat s on outside

  seat-row : seat < length parts.memory.rows
  seat-row = within parts stands seat on.attempt task

  pub read-goes : (l : Loc) → Need.Read l.0 ≡ need_of s → fed_stage (cell_at (heap_in parts) l.0).value s ≡ Some t → IsLowOnSeat (has_read seat l parts) seat t
  read-goes l need fed =
      let next : HasNextAct s (Act.Reads l.0) = comes_as s (Need.Read l.0) need in
      let place = comes-to parts seat s on (Act.Reads l.0) outside next in
      let is : IsCell (heap_in parts) l.0 = (read-there parts stands seat on.attempt task s.steps place.0 l place.1).0 in
      read-fed parts seat s x seat-row t l is need fed

  pub write-goes : (l : Loc) (v : Val) → Need.Write l.0 ≡ need_of s → IsFree (cell_at (heap_in parts) l.0) ⊎ IsOwnedBy seat (cell_at (heap_in parts) l.0)
      → fed_stage Val.Unit s ≡ Some t → IsLowOnSeat (has_written seat l v parts) seat t
  write-goes l v need owned fed =
      let next : (w : Val) × HasNextAct s (Act.Writes l.0 w) = comes_as s (Need.Write l.0) need in
      let place = comes-to parts seat s on (Act.Writes l.0 next.0) outside next.1 in
      let is : IsCell (heap_in parts) l.0 = (write-there parts stands seat on.attempt task s.steps place.0 l next.0 place.1).0 in
      write-fed parts seat s x seat-row t l v is owned need fed

  pub alloc-goes : (sort : Sort) (ty : TyNo) (v : Val) → Need.Alloc sort ty ≡ need_of s → fed_stage (Val.Loc (length parts.memory.cells)) s ≡ Some t
      → IsLowOnSeat (has_allocated seat sort ty v parts) seat t
  alloc-goes sort ty v need fed = alloc-fed parts seat s x seat-row t sort ty v need fed

-- a write that was answered so meets no cell of another seat
not-others : (seat : ℕ) (owner : Option ℕ) → answer.Wrote ≡ answer_to_write seat owner → (owner ≡ None) ⊎ (owner ≡ Some seat)
not-others seat None e = inl refl
not-others seat (Some owner) e = by (which owner seat)
  where
    by : (owner ≡ seat) ⊎ ((owner ≡ seat) → ⊥) → (Some owner ≡ None) ⊎ (Some owner ≡ Some seat)
    by (inl same) = inr (ap Some same)
    by (inr apart) = absurd (let clash : ◌≡◌ {A = Wrote} answer.Wrote (answer.Conflict owner) = e ∙ ap (λ (b : Bool). cond b answer.Wrote (answer.Conflict owner)) (ne_eqb owner seat apart) in cc)

module _ {C V M : Type 0} (meaning : Meaning C V M) where
  -- by the event and the stage of the machine after it
  pub goes : (counts : Counters → Counters) (event : Parts → Parts) (seat : ℕ) (old new : Core C V M) (m : M)
      → MakesEvent meaning counts event old new → meaning.is_machine old.code m
      → IsLowOnSeat (event (parts_of meaning old)) seat (meaning.stage old.code m)
      → (event (parts_of meaning old)).limits ≡ old.limits → (meaning.stage old.code m).since ≤ old.limits.slice → IsAtWork meaning new seat m
  goes counts event seat old new m makes machine there limits within =
      let here : IsLowOnSeat (parts_of meaning new) seat (meaning.stage old.code m) =
      subst (λ (p : Parts). IsLowOnSeat p seat (meaning.stage old.code m)) (sym makes.parts) there in
      at-work meaning new seat m (subst (λ (c : C). meaning.is_machine c m) (sym makes.code) machine)
      (subst (λ (c : C). IsLowOnSeat (parts_of meaning new) seat (meaning.stage c m)) (sym makes.code) here)
      (subst (λ (c : C). (meaning.stage c m).since ≤ new.limits.slice) (sym makes.code)
      (subst (λ (l : Limits). (meaning.stage old.code m).since ≤ l.slice) (sym (ap (λ (p : Parts). p.limits) makes.parts ∙ limits)) within))

  module _ (old new : Core C V M) (seat : ℕ) (m fed : M) (stands : Simulates (parts_of meaning old)) (at : IsAtWork meaning old seat m)
      (outside : (meaning.stage old.code m).inside ≡ false) (early : (meaning.stage old.code m).since < old.limits.slice)
      (sound : IsSoundStage (meaning.stage old.code m)) (machine : meaning.is_machine old.code fed) where
    abbrev s : MachineView
    s = meaning.stage old.code m

    abbrev t : MachineView
    t = meaning.stage old.code fed

    abbrev parts : Parts
    parts = parts_of meaning old

    abbrev low-on : IsLowOnSeat parts seat s
    low-on = record { on = at.on.stands; low = at.low }

    within-fed : (v : Val) → fed_stage v s ≡ Some t → t.since ≤ old.limits.slice
    within-fed v step =
        let more = fed-to v s t step in
        let since : t.since ≡ s.since + 1 = ap (λ (x : MachineView). x.since) more.is in
        omega (arith, since, early)

    -- after a read
    pub read-on : (l : Loc) (value : V) → s.want ≡ Some (wants.Read l) → Makes meaning (Event.Read seat l) old new
        → meaning.value_of old.code value ≡ (cell_at (heap_in parts) l.0).value
        → after_input s.want (meaning.value_of old.code value) s ≡ Some t → IsAtWork meaning new seat fed
    read-on l value told makes is after =
        let step : fed_stage (meaning.value_of old.code value) s ≡ Some t = sym (ap (λ (o : Option Wants). after_input o (meaning.value_of old.code value) s) told) ∙ after in
        let given : fed_stage (cell_at (heap_in parts) l.0).value s ≡ Some t = subst (λ (v : Val). fed_stage v s ≡ Some t) is step in
        goes (one_counted Counted.Read) (has_read seat l) seat old new fed (read-made meaning old new seat l makes) machine
        (read-goes parts seat s t stands low-on outside l (sound.told (wants.Read l) told) given) refl (within-fed (meaning.value_of old.code value) step)

    -- after a write that was accepted
    pub write-on : (l : Loc) (v : Val) → s.want ≡ Some (wants.Write l) → Makes meaning (Event.Write seat l v) old new
        → answer.Wrote ≡ answer_to_write seat (cell_at (heap_in parts) l.0).owner
        → after_input s.want Val.Unit s ≡ Some t → IsAtWork meaning new seat fed
    write-on l v told makes wrote after =
        let step : fed_stage Val.Unit s ≡ Some t = sym (ap (λ (o : Option Wants). after_input o Val.Unit s) told) ∙ after in
        goes (one_counted Counted.Write) (has_written seat l v) seat old new fed (written-made meaning old new seat l v makes) machine
        (write-goes parts seat s t stands low-on outside l v (sound.told (wants.Write l) told) (not-others seat (cell_at (heap_in parts) l.0).owner wrote) step) refl
        (within-fed Val.Unit step)

    -- after an allocation
    pub alloc-on : (sort : Sort) (number : TyNo) (v : Val) (place : ℕ) → s.want ≡ Some (wants.Alloc sort number)
        → Makes meaning (Event.Alloc seat sort number v) old new → place ≡ length old.memory.cells
        → after_input s.want (Val.Loc place) s ≡ Some t → IsAtWork meaning new seat fed
    alloc-on sort number v place told makes is after =
        let step : fed_stage (Val.Loc place) s ≡ Some t = sym (ap (λ (o : Option Wants). after_input o (Val.Loc place) s) told) ∙ after in
        let same : place ≡ length parts.memory.cells = is ∙ sym (length-map old.memory.cells (shown_cell (meaning.value_of old.code))) in
        let given : fed_stage (Val.Loc (length parts.memory.cells)) s ≡ Some t = subst (λ (n : ℕ). fed_stage (Val.Loc n) s ≡ Some t) same step in
        goes (one_counted Counted.Alloc) (has_allocated seat sort number v) seat old new fed (allocated-made meaning old new seat sort number v makes) machine
        (alloc-goes parts seat s t stands low-on outside sort number v (sound.told (wants.Alloc sort number) told) given) refl (within-fed (Val.Loc place) step)
