-- A seat writes.
use Rattle.std.proofs.Common.{Result, Ok, List, ◌≡◌, ◌≢◌, ℕ, ◌+◌, ◌<◌, ◌==◌, ◌⊎◌, inl, inr, Bool, true, false, cond, [], ◌∷◌, ◌++◌, set, length, All, Option, Some, None, option_map, refl, sym, ap, ◌∙◌, subst, arith}
use Rattle.std.specs.Prelude.{slice_get, unwrap_or}
use Rattle.std.specs.Option.{ForSome, option_map_or}
use Rattle.std.proofs.lemmas.List.{length-map}
use Rattle.std.proofs.lemmas.Option.{slice_get-map, get_or_from_slice_get}
use Rattle.std.proofs.lemmas.List.Elements.{All-push, All-set}
use Rattle.ame_term.specs.Tree.{Val}
use Rattle.ame_term.specs.declared.types.Sort.{Sort}
use Rattle.ame_term.specs.Act.{Act}
use Rattle.ame_term.specs.declared.types.Loc.{Loc}
use Rattle.ame_journal.specs.Replay.{redex_act}
use Rattle.ame_store.specs.declared.cell.Cell.{Cell}
use Rattle.ame_store.specs.Cells.{IsFree, IsOwnedBy, CanGrow}
use Rattle.ame_rows.specs.declared.notes.Undo.TheVariants.{Wrote}
use Rattle.ame_machine.specs.Run.Local.{LocalState}
use Rattle.ame_rows.specs.MemoryView.{Log, MemoryView, row_at}
use Rattle.ame_rows.specs.Access.{other_owner, IsOpenTo, overwritten, noted_write, written_by}
use Rattle.ame_rows.proofs.LookupLemmas.{get_there, all_at}
use Rattle.ame_rows.proofs.AccessLemmas.{other_none, other_own, other_apart, open_not_owned}
use Rattle.ame_protocol.specs.Row.Heap.{no_cell, cell_at, IsCell}
use Rattle.ame_protocol.specs.Row.Shown.{shown_cell}
use Rattle.ame_protocol.specs.Row.SeatRun.{ComesTo}
use Rattle.ame_protocol.proofs.Row.CellLemmas.{which}
use Rattle.ame_machine.specs.declared.wants.Wants.{Wants}
use Rattle.ame_machine.specs.declared.wants.Wants.TheVariants as wants
use Rattle.ame_machine.specs.MachineView.{MachineView}
use Rattle.ame_machine.specs.Need.{Need, need_of}
use Rattle.ame_machine.specs.Input.{value_set, value_to_set}
use Rattle.ame_machine.specs.Comes.{HasNextAct}
use Rattle.ame_machine.specs.Sound.{IsSoundStage, CanRun}
use Rattle.ame_machine.proofs.NeedLemmas.{comes_as}
use Rattle.ame_protocol.specs.declared.types.Attempt.{Attempt}
use Rattle.ame_protocol.specs.declared.types.Task.{Task}
use Rattle.ame_protocol.specs.Engine.Parts.{Parts, heap_in, task_at, run_in}
use Rattle.ame_protocol.specs.Engine.Shown.{shown_memory}
use Rattle.ame_protocol.specs.Engine.Events.{has_written}
use Rattle.ame_protocol.proofs.Engine.AccessLemmas.{write-there}
use Rattle.ame_protocol.proofs.Engine.ToldLemmas.{cells-grow}
use Rattle.ame_protocol.proofs.Engine.ShownMemoryLemmas.{write-shown}
use Rattle.ame_engine.specs.declared.answer.Wrote.{Wrote as Answer}
use Rattle.ame_engine.specs.declared.answer.Wrote.TheVariants as answer
use Rattle.ame_engine.specs.declared.engine.turn.Setback.{Setback}
use Rattle.ame_engine.specs.Core.{Core}
use Rattle.ame_protocol.specs.Event.Counting.{Counted, one_counted}
use Rattle.ame_protocol.specs.Event.Event.{Event, Reverse}
use Rattle.ame_protocol.specs.Event.May.{May}
use Rattle.ame_protocol.specs.Event.Sound.{Sound}
use Rattle.ame_protocol.proofs.Event.SoundLemmas.{sound-after}
use Rattle.ame_engine.specs.Seen.{parts_of}
use Rattle.ame_engine.specs.Makes.{state_of, Makes}
use Rattle.ame_engine.specs.Whole.{IsGoodUndo, IsGoodLog, IsGoodMemory, IsSound}
use Rattle.ame_engine.specs.AtWork.{IsOnSeat, IsOn}
use Rattle.ame_engine.specs.Turning.{HasMet}
use Rattle.ame_engine.specs.Writing.{answer_to_write}
use Rattle.ame_engine.proofs.MakesLemmas.{made-event}
use Rattle.ame_engine.proofs.ReadLemmas.{row-good, runs-as, comes-to, has-come}
use Rattle.ame_engine.proofs.RunLemmas.{can-run}
use Rattle.ame_machine.specs.Meaning.{Meaning}
use Rattle.ame_machine.specs.RefSorts.{IsRefForm}
use Rattle.ame_engine.proofs.SoundLemmas.{sound-next}

-- The location that is wanted

write-at : Option Wants → Loc → Loc
write-at (Some (wants.Write l)) d = l
write-at _ d = d

write-same : (l k : Loc) (o : Option Wants) → o ≡ Some (wants.Write l) → o ≡ Some (wants.Write k) → l ≡ k
unfolding write-at
write-same l k o e f = ap (λ (w : Option Wants). write-at w l) (sym e ∙ f)

-- The seat that an answer names

owner-in : {E : Type 0} → Result Answer E → ℕ → ℕ
owner-in (Ok (answer.Conflict owner)) d = owner
owner-in _ d = d

pub one-owner : {E : Type 0} (owner other : ℕ) → ◌≡◌ {A = Result Answer E} (Ok (answer.Conflict owner)) (Ok (answer.Conflict other)) → owner ≡ other
unfolding owner-in
one-owner {E} owner other e = ap (λ (r : Result Answer E). owner-in r owner) e

-- The owner of the cell

module _ {V : Type 0} (seat : ℕ) (cell : Cell V) where
  done-cell : None ≡ other_owner seat cell.owner → IsFree cell ⊎ IsOwnedBy seat cell
  done-cell h = by cell.owner refl
    where
      its : (owner : ℕ) → cell.owner ≡ Some owner → (owner ≡ seat) ⊎ ((owner ≡ seat) → ⊥) → IsFree cell ⊎ IsOwnedBy seat cell
      its owner e (inl same) = inr (e ∙ ap Some same)
      its owner e (inr n) = absurd (open_not_owned seat owner cell e n (sym h))

      by : (o : Option ℕ) → cell.owner ≡ o → IsFree cell ⊎ IsOwnedBy seat cell
      by None e = inl e
      by (Some owner) e = its owner e (which owner seat)

  conflict-cell : (owner : ℕ) → Some owner ≡ other_owner seat cell.owner → IsOwnedBy owner cell × (owner ≢ seat)
  conflict-cell owner h = by cell.owner refl
    where
      some : other_owner seat cell.owner ≡ None → ⊥
      some e = let clash : ◌≡◌ {A = Option ℕ} (Some owner) None = h ∙ e in cc

      its : (other : ℕ) → cell.owner ≡ Some other → (other ≡ seat) ⊎ ((other ≡ seat) → ⊥) → IsOwnedBy owner cell × (owner ≢ seat)
      its other e (inl same) = absurd (some (other_own seat cell (e ∙ ap Some same)))
      its other e (inr n) =
          let one : owner ≡ other = ap (λ (o : Option ℕ). unwrap_or o owner) (h ∙ other_apart seat other cell e n) in
          (e ∙ ap Some (sym one), λ same. n (sym one ∙ same))

      by : (o : Option ℕ) → cell.owner ≡ o → IsOwnedBy owner cell × (owner ≢ seat)
      by None e = absurd (some (other_none seat cell e))
      by (Some other) e = its other e (which other seat)

pub write-open : {V : Type 0} (cells : List (Cell V)) (seat l : ℕ) (o : Option ℕ) → ForSome (slice_get cells l) (λ cell. o ≡ other_owner seat cell.owner) → o ≡ None
    → ForSome (slice_get cells l) (IsOpenTo seat)
write-open cells seat l o owns none = λ cell at. sym (owns cell at) ∙ none

-- The answer

answered : Option ℕ → Answer
answered None = answer.Wrote
answered (Some owner) = answer.Conflict owner

module _ (seat : ℕ) where
  answered-so : (o : Option ℕ) → answered (other_owner seat o) ≡ answer_to_write seat o
  unfolding answered
  answered-so None = refl
  answered-so (Some owner) = by (owner == seat)
    where
      by : (b : Bool) → answered (cond b None (Some owner)) ≡ cond b answer.Wrote (answer.Conflict owner)
      by true = refl
      by false = refl

  done-so : (o : Option ℕ) → None ≡ other_owner seat o → answer.Wrote ≡ answer_to_write seat o
  unfolding answered
  done-so o h = ap answered h ∙ answered-so o

  conflict-so : (o : Option ℕ) (owner : ℕ) → Some owner ≡ other_owner seat o → answer.Conflict owner ≡ answer_to_write seat o
  unfolding answered
  conflict-so o owner h = ap answered h ∙ answered-so o

-- Good values

module _ {V : Type 0} (IsGood : V → Type 0) (IsForm : Sort → ℕ → Type 0) (seat : ℕ) (l : Loc) (value input : V) (good : IsGood value) (good-input : IsGood input) where
  one-good : (o : Option ℕ) (cell : Cell V) → IsGood cell.value → IsGood (overwritten seat value o cell).value
  one-good None cell its = good
  one-good (Some owner) cell its = by (owner == seat)
    where
      by : (b : Bool) → IsGood (cond b (record cell { value = value }) cell).value
      by true = good
      by false = its

  one-form : (o : Option ℕ) (cell : Cell V) → IsForm cell.sort cell.ty.0 → IsForm (overwritten seat value o cell).sort (overwritten seat value o cell).ty.0
  one-form None cell form = form
  one-form (Some owner) cell form = by (owner == seat)
    where
      by : (b : Bool) → IsForm (cond b (record cell { value = value }) cell).sort (cond b (record cell { value = value }) cell).ty.0
      by true = form
      by false = form

  noted-good : (o : Option ℕ) (cell : Cell V) (notes : Log V) → IsGood cell.value → IsGoodLog IsGood notes
      → IsGoodLog IsGood (noted_write seat l input o cell notes)
  noted-good None cell notes its all = record {
    inputs = All-push IsGood notes.inputs input all.inputs good-input;
    undos = All-push (IsGoodUndo IsGood) notes.undos (Wrote l cell.number cell.value) all.undos its;
  }
  noted-good (Some owner) cell notes its all = by (owner == seat)
    where
      by : (b : Bool) → IsGoodLog IsGood (cond b (record notes { inputs = notes.inputs ++ input ∷ [] }) notes)
      by true = record { inputs = All-push IsGood notes.inputs input all.inputs good-input; undos = all.undos }
      by false = all

  pub memory-good : (c : MemoryView V) → l.0 < length c.cells → IsGoodMemory IsGood IsForm c → IsGoodMemory IsGood IsForm (written_by seat l value input c)
  memory-good c below whole = record {
    cells = cells-by (slice_get c.cells l.0) (λ cell e. its cell e);
    forms = forms-by (slice_get c.cells l.0) (λ cell e. form cell e);
    rows = All-set (IsGoodLog IsGood) c.rows seat _ (notes-by (slice_get c.cells l.0) (λ cell e. its cell e)) whole.rows;
  }
    where
      its : (cell : Cell V) → slice_get c.cells l.0 ≡ Some cell → IsGood cell.value
      its cell e = all_at (λ (cell : Cell V). IsGood cell.value) c.cells l.0 cell below e whole.cells

      form : (cell : Cell V) → slice_get c.cells l.0 ≡ Some cell → IsForm cell.sort cell.ty.0
      form cell e = all_at (λ (cell : Cell V). IsForm cell.sort cell.ty.0) c.cells l.0 cell below e whole.forms

      forms-by : (o : Option (Cell V)) → ((cell : Cell V) → o ≡ Some cell → IsForm cell.sort cell.ty.0)
          → All (λ (cell : Cell V). IsForm cell.sort cell.ty.0) (option_map_or (λ cell. set c.cells l.0 (overwritten seat value cell.owner cell)) o c.cells)
      forms-by None each = whole.forms
      forms-by (Some cell) each =
          All-set (λ (cell : Cell V). IsForm cell.sort cell.ty.0) c.cells l.0 (overwritten seat value cell.owner cell) (one-form cell.owner cell (each cell refl)) whole.forms

      cells-by : (o : Option (Cell V)) → ((cell : Cell V) → o ≡ Some cell → IsGood cell.value)
          → All (λ (cell : Cell V). IsGood cell.value) (option_map_or (λ cell. set c.cells l.0 (overwritten seat value cell.owner cell)) o c.cells)
      cells-by None each = whole.cells
      cells-by (Some cell) each =
          All-set (λ (cell : Cell V). IsGood cell.value) c.cells l.0 (overwritten seat value cell.owner cell) (one-good cell.owner cell (each cell refl)) whole.cells

      notes-by : (o : Option (Cell V)) → ((cell : Cell V) → o ≡ Some cell → IsGood cell.value)
          → IsGoodLog IsGood (option_map_or (λ cell. noted_write seat l input cell.owner cell (row_at c.rows seat)) o (row_at c.rows seat))
      notes-by None each = row-good IsGood c.rows seat whole.rows
      notes-by (Some cell) each = noted-good cell.owner cell (row_at c.rows seat) (each cell refl) (row-good IsGood c.rows seat whole.rows)

-- The whole engine

module _ {C V M : Type 0} (meaning : Meaning C V M) (same : V → V → Type 0)
    (keeps : (code : C) (v w : V) → same v w → meaning.is_value code v → meaning.is_value code w)
    (shows : (code : C) (v w : V) → same v w → meaning.value_of code v ≡ meaning.value_of code w)
    (core now : Core C V M) (view : core ≡ now) (whole : IsSound meaning core)
    (seat : ℕ) (m : M) (l : Loc) (on : IsOn meaning now seat m)
    (outside : (meaning.stage now.code m).inside ≡ false) (wants-it : (meaning.stage now.code m).want ≡ Some (wants.Write l))
    (sound : IsSoundStage (meaning.stage now.code m)) where
  abbrev parts : Parts
  parts = parts_of meaning core

  abbrev s : MachineView
  s = meaning.stage core.code m

  on' : IsOnSeat parts seat s
  on' = subst (λ (x : Core C V M). IsOnSeat (parts_of meaning x) seat (meaning.stage x.code m)) (sym view) on.stands

  outside' : s.inside ≡ false
  outside' = subst (λ (x : Core C V M). (meaning.stage x.code m).inside ≡ false) (sym view) outside

  need' : Need.Write l.0 ≡ need_of s
  need' = subst (λ (x : Core C V M). Need.Write l.0 ≡ need_of (meaning.stage x.code m)) (sym view) (sound.told (wants.Write l) wants-it)

  next-act : (v : Val) × HasNextAct s (Act.Writes l.0 v)
  next-act = comes_as s (Need.Write l.0) need'

  comes : (p : LocalState) × ComesTo (run_in parts seat on'.attempt.tried.number) (Act.Writes l.0 next-act.0) s.steps p
  comes = comes-to parts seat s on' (Act.Writes l.0 next-act.0) outside' next-act.1

  task : task_at parts.tasks seat ≡ Task.Running on'.attempt
  task = runs-as parts seat s on' outside'

  there : IsCell (heap_in parts) l.0
  there = (write-there parts whole.state.stands seat on'.attempt task s.steps comes.0 l next-act.0 comes.1).0

  pub write-location : l.0 < length core.memory.cells
  write-location = subst (λ (n : ℕ). l.0 < n) (length-map core.memory.cells (shown_cell (meaning.value_of core.code))) there

  shown-there : (cell : Cell V) → slice_get core.memory.cells l.0 ≡ Some cell → slice_get parts.memory.cells l.0 ≡ Some (shown_cell (meaning.value_of core.code) cell)
  shown-there cell e = slice_get-map (shown_cell (meaning.value_of core.code)) core.memory.cells l.0 ∙ ap (option_map (shown_cell (meaning.value_of core.code))) e

  pub write-grows : ForSome (slice_get core.memory.cells l.0) CanGrow
  write-grows = λ cell e.
      all_at CanGrow parts.memory.cells l.0 (shown_cell (meaning.value_of core.code) cell) there (shown-there cell e)
      (cells-grow parts whole.state.stands (let h = whole.limits.turns in omega arith))

  found : (cell : Cell V) × (slice_get core.memory.cells l.0 ≡ Some cell)
  found = get_there core.memory.cells l.0 write-location

  found-is : cell_at (heap_in parts) l.0 ≡ shown_cell (meaning.value_of core.code) found.0
  found-is = get_or_from_slice_get parts.memory.cells l.0 (shown_cell (meaning.value_of core.code) found.0) no_cell (shown-there found.0 found.1)

  module _ (left : now.turns < now.limits.turns) (lent value input : V) (lent-good : meaning.is_value core.code lent) (sets : value_to_set s ≡ Some (meaning.value_of core.code lent))
      (copied : same lent value) (input-good : meaning.is_value core.code input) (unit : meaning.value_of core.code input ≡ Val.Unit)
      (memory : MemoryView V) (is : memory ≡ written_by seat l value input core.memory) where
    left' : core.turns < core.limits.turns
    left' = subst (λ (x : Core C V M). x.turns < x.limits.turns) (sym view) left

    value-is : next-act.0 ≡ meaning.value_of core.code value
    value-is =
        let next : value_to_set s ≡ Some next-act.0 = ap value_set (ap redex_act next-act.1.1 ∙ ap (λ (a : Act). Some a) next-act.1.2) in
        ap (λ (o : Option Val). unwrap_or o next-act.0) (sym next ∙ sets) ∙ shows core.code lent value copied

    value-good : meaning.is_value core.code value
    value-good = keeps core.code lent value copied lent-good

    abbrev after : Core C V M
    after = record core { memory = memory; turns = core.turns + 1; counters = one_counted Counted.Write core.counters }

    turned : MemoryView Val → Parts
    turned d = record parts { memory = d; turns = parts.turns + 1 }

    parts-written : parts_of meaning after ≡ has_written seat l (meaning.value_of core.code value) parts
    unfolding turned
    parts-written =
        ap turned
        (ap (shown_memory (meaning.value_of core.code)) is ∙ write-shown (meaning.value_of core.code) seat l value input core.memory
        ∙ ap (λ (u : Val). written_by seat l (meaning.value_of core.code value) u parts.memory) unit)

    module _ (o : Option ℕ) (owns : ForSome (slice_get core.memory.cells l.0) (λ cell. o ≡ other_owner seat cell.owner)) (none : o ≡ None) where
      done : None ≡ other_owner seat found.0.owner
      done = sym none ∙ owns found.0 found.1

      owned : IsFree (cell_at (heap_in parts) l.0) ⊎ IsOwnedBy seat (cell_at (heap_in parts) l.0)
      owned =
          subst (λ (c : Cell Val). IsFree c ⊎ IsOwnedBy seat c) (sym found-is)
          (by (done-cell seat found.0 done))
        where
          by : IsFree found.0 ⊎ IsOwnedBy seat found.0 → IsFree (shown_cell (meaning.value_of core.code) found.0) ⊎ IsOwnedBy seat (shown_cell (meaning.value_of core.code) found.0)
          by (inl free) = inl free
          by (inr own) = inr own

      -- so the seat may write
      may-write : now.stop ≡ None → (meaning.stage now.code m).since < now.limits.slice → May (Event.Write seat l (meaning.value_of core.code value)) (state_of meaning core)
      may-write going early = subst (λ (v : Val). May (Event.Write seat l v) (state_of meaning core)) value-is (
        record { going = subst (λ (x : Core C V M). x.stop ≡ None) (sym view) going; left = left' },
        has-come (state_of meaning core) seat s on' (Act.Writes l.0 next-act.0) outside' next-act.1
            (subst (λ (x : Core C V M). (meaning.stage x.code m).since < x.limits.slice) (sym view) early),
        owned,
      )

      makes-it : now.stop ≡ None → (meaning.stage now.code m).since < now.limits.slice → Makes meaning (Event.Write seat l (meaning.value_of core.code value)) now after
      makes-it going early =
          subst (λ (x : Core C V M). Makes meaning (Event.Write seat l (meaning.value_of core.code value)) x after) view
          (made-event meaning (one_counted Counted.Write) (has_written seat l (meaning.value_of core.code value)) (Event.Write seat l (meaning.value_of core.code value))
          core after refl refl (may-write going early) (record { code = refl; parts = parts-written; counted = refl; stop = refl }))

      pub makes-written : now.stop ≡ None → (meaning.stage now.code m).since < now.limits.slice
          → (k : Loc) (v : Val) → (meaning.stage now.code m).want ≡ Some (wants.Write k) → value_to_set (meaning.stage now.code m) ≡ Some v
          → Makes meaning (Event.Write seat k v) now after
      makes-written going early k v e set =
          let sets-now : value_to_set (meaning.stage now.code m) ≡ Some (meaning.value_of core.code value) =
          subst (λ (x : Core C V M). value_to_set (meaning.stage x.code m) ≡ Some (meaning.value_of core.code value)) view (sets ∙ ap Some (shows core.code lent value copied)) in
          let one : meaning.value_of core.code value ≡ v = ap (λ (o : Option Val). unwrap_or o v) (sym sets-now ∙ set) in
          subst (λ (x : Val). Makes meaning (Event.Write seat k x) now after) one
          (subst (λ (x : Loc). Makes meaning (Event.Write seat x (meaning.value_of core.code value)) now after)
          (write-same l k (meaning.stage now.code m).want wants-it e) (makes-it going early))

      pub whole-written : now.stop ≡ None → (meaning.stage now.code m).since < now.limits.slice → IsSound meaning after
      whole-written going early =
          sound-next meaning core now after view whole (Event.Write seat l (meaning.value_of core.code value)) (makes-it going early)
          (subst (IsGoodMemory (meaning.is_value core.code) (IsRefForm (meaning.program core.code))) (sym is)
          (memory-good (meaning.is_value core.code) (IsRefForm (meaning.program core.code)) seat l value input value-good input-good core.memory write-location whole.memory))
          whole.members whole.text

      pub runs-written : now.stop ≡ None → (meaning.stage now.code m).since < now.limits.slice → (t : MachineView) → IsOnSeat (parts_of meaning after) seat t → t.inside ≡ false → CanRun t
      runs-written going early t stands out = can-run (parts_of meaning after) (whole-written going early).state.stands seat t stands out

      pub answer-written : (k : Loc) → (meaning.stage now.code m).want ≡ Some (wants.Write k)
          → answer.Wrote ≡ answer_to_write seat (cell_at (heap_in (parts_of meaning now)) k.0).owner
      answer-written k e =
          subst (λ (x : Loc). answer.Wrote ≡ answer_to_write seat (cell_at (heap_in (parts_of meaning now)) x.0).owner)
          (write-same l k (meaning.stage now.code m).want wants-it e)
          (subst (λ (x : Core C V M). answer.Wrote ≡ answer_to_write seat (cell_at (heap_in (parts_of meaning x)) l.0).owner) view
          (done-so seat found.0.owner done ∙ ap (λ (c : Cell Val). answer_to_write seat c.owner) (sym found-is)))

  -- another seat owns the cell
  module _ (o : Option ℕ) (owns : ForSome (slice_get core.memory.cells l.0) (λ cell. o ≡ other_owner seat cell.owner)) (owner : ℕ) (some : o ≡ Some owner) where
    refused : Some owner ≡ other_owner seat found.0.owner
    refused = sym some ∙ owns found.0 found.1

    pub conflict-met : HasMet meaning now seat (Setback.Conflict l owner)
    conflict-met =
        let other = conflict-cell seat found.0 owner refused in
        subst (λ (x : Core C V M). IsOwnedBy owner (cell_at (heap_in (parts_of meaning x)) l.0) × (owner ≡ seat → ⊥)) view
        (ap (λ (c : Cell Val). c.owner) found-is ∙ other.0, other.1)

    pub answer-conflict : (k : Loc) → (meaning.stage now.code m).want ≡ Some (wants.Write k)
        → answer.Conflict owner ≡ answer_to_write seat (cell_at (heap_in (parts_of meaning now)) k.0).owner
    answer-conflict k e =
        subst (λ (x : Loc). answer.Conflict owner ≡ answer_to_write seat (cell_at (heap_in (parts_of meaning now)) x.0).owner)
        (write-same l k (meaning.stage now.code m).want wants-it e)
        (subst (λ (x : Core C V M). answer.Conflict owner ≡ answer_to_write seat (cell_at (heap_in (parts_of meaning x)) l.0).owner) view
        (conflict-so seat found.0.owner owner refused ∙ ap (λ (c : Cell Val). answer_to_write seat c.owner) (sym found-is)))

    -- so the seat has turned back
    module _ (new : Core C V M)
        (makes : (a : Attempt) → task_at now.tasks seat ≡ Task.Running a → Makes meaning (Event.TurnBack seat a (Reverse.Met l owner)) now new) where
      pub makes-conflict : (k : Loc) (a : Attempt) → (meaning.stage now.code m).want ≡ Some (wants.Write k) → task_at now.tasks seat ≡ Task.Running a
          → (other : ℕ) → owner ≡ other → Makes meaning (Event.TurnBack seat a (Reverse.Met k other)) now new
      makes-conflict k a e runs-it other one =
          subst (λ (n : ℕ). Makes meaning (Event.TurnBack seat a (Reverse.Met k n)) now new) one
          (subst (λ (x : Loc). Makes meaning (Event.TurnBack seat a (Reverse.Met x owner)) now new) (write-same l k (meaning.stage now.code m).want wants-it e)
          (makes a runs-it))

      pub runs-conflict : (t : MachineView) → IsOnSeat (parts_of meaning new) seat t → t.inside ≡ false → CanRun t
      runs-conflict t stands out =
          let made = makes on.stands.attempt (runs-as (parts_of meaning now) seat (meaning.stage now.code m) on.stands outside) in
          let sound : Sound (state_of meaning new) = subst Sound (sym made.state)
          (sound-after (Event.TurnBack seat on.stands.attempt (Reverse.Met l owner)) (state_of meaning now) made.may
          (subst (λ (x : Core C V M). Sound (state_of meaning x)) view whole.state)) in
          can-run (parts_of meaning new) sound.stands seat t stands out
