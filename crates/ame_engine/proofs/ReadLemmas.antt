-- A seat reads.
use Rattle.std.proofs.Common.{◌≡◌, ℕ, zero, suc, ◌+◌, ◌<◌, false, List, [], ◌∷◌, length, All, Option, Some, None, option_map, refl, sym, ap, ◌∙◌, subst, arith}
use Rattle.std.specs.Prelude.{slice_get}
use Rattle.std.specs.Option.{option_map_or}
use Rattle.std.proofs.lemmas.List.{length-map}
use Rattle.std.proofs.lemmas.Option.{slice_get-map, get_or_from_slice_get}
use Rattle.std.proofs.lemmas.List.Elements.{All-push, All-set, All-nil, All-head, All-tail}
use Rattle.ame_term.specs.Tree.{Val}
use Rattle.ame_term.specs.Frame.{Side, side_told}
use Rattle.ame_term.specs.Context.{Focus, focus}
use Rattle.ame_term.specs.Act.{Act}
use Rattle.ame_term.specs.declared.types.Loc.{Loc}
use Rattle.ame_store.specs.declared.cell.Cell.{Cell}
use Rattle.ame_store.specs.Cells.{HasItsParity}
use Rattle.ame_machine.specs.Run.Local.{LocalState, local}
use Rattle.ame_rows.specs.MemoryView.{Log, MemoryView, row_at, by_seat}
use Rattle.ame_rows.specs.Access.{noted_read}
use Rattle.ame_protocol.specs.Row.Heap.{no_cell, cell_at, IsCell}
use Rattle.ame_protocol.specs.Row.SeatRun.{ComesTo}
use Rattle.ame_machine.specs.MachineView.{MachineView, place_shown, running_side, without_footprint, with_answer}
use Rattle.ame_machine.specs.Need.{Need, need_of}
use Rattle.ame_machine.specs.Comes.{HasNextAct}
use Rattle.ame_machine.proofs.NeedLemmas.{comes_as}
use Rattle.ame_protocol.specs.declared.types.Attempt.{Attempt}
use Rattle.ame_protocol.specs.declared.types.Task.{Task}
use Rattle.ame_protocol.specs.Engine.Parts.{Parts, heap_in, task_at, run_in, term_at, working}
use Rattle.ame_protocol.specs.Engine.Events.{has_read}
use Rattle.ame_protocol.proofs.Engine.AccessLemmas.{read-there}
use Rattle.ame_engine.specs.Core.{Core}
use Rattle.ame_protocol.specs.Event.Counting.{Counted, one_counted}
use Rattle.ame_protocol.specs.Row.Shown.{shown_cell}
use Rattle.ame_protocol.proofs.Engine.ShownMemoryLemmas.{read-shown}
use Rattle.ame_rows.specs.Access.{IsRead}
use Rattle.ame_rows.proofs.LookupLemmas.{get_there, all_at}
use Rattle.ame_protocol.specs.Event.EngineState.{EngineState}
use Rattle.ame_protocol.specs.Event.Event.{Event}
use Rattle.ame_protocol.specs.Event.May.{May, ComesToAct}
use Rattle.ame_engine.specs.Seen.{parts_of}
use Rattle.ame_engine.specs.Makes.{state_of}
use Rattle.ame_engine.specs.Whole.{IsGoodUndo, IsGoodLog, IsSound, IsGoodMemory}
use Rattle.ame_engine.specs.AtWork.{IsOnSeat, is_free}
use Rattle.ame_machine.specs.Meaning.{Meaning}
use Rattle.ame_machine.specs.RefSorts.{IsRefForm}

-- Good values

module _ {V : Type 0} (IsGood : V → Type 0) where
  pub row-good : (rows : List (Log V)) (seat : ℕ) → All (IsGoodLog IsGood) rows → IsGoodLog IsGood (row_at rows seat)
  row-good [] seat all = record { inputs = All-nil IsGood; undos = All-nil (IsGoodUndo IsGood) }
  row-good (r ∷ rows) zero all = All-head (IsGoodLog IsGood) r rows all
  row-good (r ∷ rows) (suc seat) all = row-good rows seat (All-tail (IsGoodLog IsGood) r rows all)

  pub read-good : (seat : ℕ) (l : Loc) (input : V) → IsGood input → (o : Option (Cell V)) (notes : Log V) → IsGoodLog IsGood notes
      → IsGoodLog IsGood (option_map_or (λ cell. noted_read seat l input cell notes) o notes)
  read-good seat l input good None notes all = all
  read-good seat l input good (Some cell) notes all =
      record { inputs = All-push IsGood notes.inputs input all.inputs good; undos = all.undos }

-- The place of the run

pub place-by : (o : Option LocalState) (s : MachineView) → option_map without_footprint o ≡ Some (with_answer None (place_shown s))
    → (p : LocalState) × (o ≡ Some p) × (p.term ≡ s.term) × (p.inputs ≡ [])
place-by None s e = absurd (none-some e)
  where
    none-some : ◌≡◌ {A = Option LocalState} None (Some (with_answer None (place_shown s))) → ⊥
    none-some h = cc
place-by (Some p) s e =
    let same : without_footprint p ≡ with_answer None (place_shown s) = ap (λ (o : Option LocalState). option_map_or (λ x. x) o (without_footprint p)) e in
    (p, refl, ap (λ (x : LocalState). x.term) same, ap (λ (x : LocalState). x.inputs) same)

running-attempt : (t : Task) (a : Attempt) → working t ≡ Some a → is_free t ≡ false → t ≡ Task.Running a
running-attempt Task.Idle a e free = cc
running-attempt (Task.Running b) a e free = ap Task.Running (ap (λ (o : Option Attempt). option_map_or (λ x. x) o b) e)
running-attempt (Task.Free b) a e free = cc
running-attempt (Task.Undoing b reason) a e free = cc

-- the task of a seat that runs protected code
pub runs-as : (parts : Parts) (seat : ℕ) (s : MachineView) (on : IsOnSeat parts seat s) → s.inside ≡ false → task_at parts.tasks seat ≡ Task.Running on.attempt
runs-as parts seat s on outside = running-attempt (task_at parts.tasks seat) on.attempt on.has (sym on.side ∙ outside)

-- The run has come to an act.
pub comes-to : (parts : Parts) (seat : ℕ) (s : MachineView) (on : IsOnSeat parts seat s) (act : Act) → s.inside ≡ false → HasNextAct s act
    → (p : LocalState) × ComesTo (run_in parts seat on.attempt.tried.number) act s.steps p
comes-to parts seat s on act outside there =
    let start = term_at parts.pool on.attempt.tried.number in
    let inputs = (row_at parts.memory.rows seat).inputs in
    let place = place-by (local (running_side s) start inputs s.steps) s on.run in
    let side : running_side s ≡ Side.Protected = ap side_told outside in (
      place.0,
      record {
        place = record { ran = subst (λ (x : Side). local x start inputs s.steps ≡ Some place.0) side place.1; used = place.3 };
        there = record {
          redex = there.0;
          stands = ap focus place.2 ∙ there.1 ∙ ap (λ (x : Side). Focus.AtRedex x there.0) side;
          acts = there.2;
        };
      },
    )

-- a machine on the run of a seat that wants an act before the slice is full has come to that act
pub has-come : (st : EngineState) (seat : ℕ) (s : MachineView) (on : IsOnSeat st.parts seat s) (act : Act) → s.inside ≡ false → HasNextAct s act
    → s.since < st.parts.limits.slice → ComesToAct st seat act
has-come st seat s on act outside next early =
    let at = comes-to st.parts seat s on act outside next in
    record {
      attempt = on.attempt;
      task = runs-as st.parts seat s on outside;
      steps = s.steps;
      place = at.0;
      comes = at.1;
      early = let since = on.since in omega arith;
    }

-- The whole engine

module _ {C V M : Type 0} (meaning : Meaning C V M) where
  module _ (core : Core C V M) (whole : IsSound meaning core) (seat : ℕ) (m : M) (l : Loc)
      (on : IsOnSeat (parts_of meaning core) seat (meaning.stage core.code m)) (outside : (meaning.stage core.code m).inside ≡ false)
      (need : Need.Read l.0 ≡ need_of (meaning.stage core.code m)) where
    abbrev parts : Parts
    parts = parts_of meaning core

    comes : (p : LocalState) × ComesTo (run_in parts seat on.attempt.tried.number) (Act.Reads l.0) (meaning.stage core.code m).steps p
    comes = comes-to parts seat (meaning.stage core.code m) on (Act.Reads l.0) outside (comes_as (meaning.stage core.code m) (Need.Read l.0) need)

    task : task_at parts.tasks seat ≡ Task.Running on.attempt
    task = runs-as parts seat (meaning.stage core.code m) on outside

    -- a cell is there
    pub read-cell : IsCell (heap_in parts) l.0
    read-cell = (read-there parts whole.state.stands seat on.attempt task (meaning.stage core.code m).steps comes.0 l comes.1).0

    pub read-within : l.0 < length core.memory.cells
    read-within = subst (λ (n : ℕ). l.0 < n) (length-map core.memory.cells (shown_cell (meaning.value_of core.code))) read-cell

    -- what is in place there, as plain data
    pub in-place : (cell : Cell V) → slice_get core.memory.cells l.0 ≡ Some cell → (cell_at (heap_in parts) l.0).value ≡ meaning.value_of core.code cell.value
    in-place cell there =
        ap (λ (c : Cell Val). c.value)
        (get_or_from_slice_get parts.memory.cells l.0 (shown_cell (meaning.value_of core.code) cell) no_cell
        (slice_get-map (shown_cell (meaning.value_of core.code)) core.memory.cells l.0 ∙ ap (option_map (shown_cell (meaning.value_of core.code))) there))

    module _ (left : core.turns < core.limits.turns) (same : V → V → Type 0) (shows : (v w : V) → same v w → meaning.value_of core.code w ≡ meaning.value_of core.code v)
        (keeps : (v w : V) → same v w → meaning.is_value core.code v → meaning.is_value core.code w) (notes : Log V)
        (row : IsRead same seat l core.memory.cells (row_at core.memory.rows seat) notes) where
      -- the engine after the read
      abbrev pub read_with : Core C V M
      read_with = record core { memory = by_seat seat core.memory.cells notes core.memory; turns = core.turns + 1; counters = one_counted Counted.Read core.counters }

      turned : MemoryView Val → Parts
      turned memory = record parts { memory = memory; turns = parts.turns + 1 }

      pub read-parts : parts_of meaning read_with ≡ has_read seat l parts
      unfolding turned
      read-parts = ap turned (read-shown (meaning.value_of core.code) same shows seat l core.memory notes read-within row)

      there : (cell : Cell V) × (slice_get core.memory.cells l.0 ≡ Some cell)
      there = get_there core.memory.cells l.0 read-within

      -- each value is good that is the same as the one in place
      good-same : (v : V) → same there.0.value v → meaning.is_value core.code v
      good-same v h =
          keeps there.0.value v h
          (all_at (λ (cell : Cell V). meaning.is_value core.code cell.value) core.memory.cells l.0 there.0 read-within there.1 whole.memory.cells)

      good-row : IsGoodLog (meaning.is_value core.code) notes
      good-row = subst (IsGoodLog (meaning.is_value core.code)) (sym row.becomes)
          (read-good (meaning.is_value core.code) seat l row.input (good-same row.input (row.copied there.0 there.1)) (slice_get core.memory.cells l.0)
          (row_at core.memory.rows seat) (row-good (meaning.is_value core.code) core.memory.rows seat whole.memory.rows))

      -- The cell's number is even exactly if it has no owner.
      its-parity : All HasItsParity core.memory.cells → HasItsParity (cell_at (heap_in parts) l.0)
      its-parity parity =
          subst HasItsParity
          (sym (get_or_from_slice_get parts.memory.cells l.0 (shown_cell (meaning.value_of core.code) there.0) no_cell
          (slice_get-map (shown_cell (meaning.value_of core.code)) core.memory.cells l.0 ∙ ap (option_map (shown_cell (meaning.value_of core.code))) there.1)))
          (all_at HasItsParity core.memory.cells l.0 there.0 read-within there.1 parity)

      -- so the seat may read
      pub may-read : core.stop ≡ None → (meaning.stage core.code m).since < core.limits.slice → All HasItsParity core.memory.cells
          → May (Event.Read seat l) (state_of meaning core)
      may-read going early parity =
          let s = meaning.stage core.code m in (
            record { going = going; left = left },
            has-come (state_of meaning core) seat s on (Act.Reads l.0) outside (comes_as s (Need.Read l.0) need) early,
            its-parity parity,
          )

      -- and what the memory has then is good
      pub read-memory : IsGoodMemory (meaning.is_value core.code) (IsRefForm (meaning.program core.code)) (by_seat seat core.memory.cells notes core.memory)
      read-memory = record {
        cells = whole.memory.cells;
        forms = whole.memory.forms;
        rows = All-set (IsGoodLog (meaning.is_value core.code)) core.memory.rows seat notes good-row whole.memory.rows;
      }
