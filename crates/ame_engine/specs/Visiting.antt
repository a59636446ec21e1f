-- Visits of members that are inside.
use Rattle.std.specs.Prelude.{◌≡◌, ℕ, ◌<◌, ◌||◌, ℤ, true, false, Bool, List, [], Option, Some, None, Ok, Err, length, slice_get}
use Rattle.std.specs.Option.{ForSome}
use Rattle.ame_term.specs.Tree.{Val}
use Rattle.ame_term.specs.declared.types.Loc.{Loc}
use Rattle.ame_term.specs.declared.types.Sort.{Sort}
use Rattle.ame_term.specs.declared.types.TyNo.{TyNo}
use Rattle.ame_store.specs.Cells.{IsFree, CanGrow}
use Rattle.ame_device.specs.declared.told.Told.{Told}
use Rattle.ame_device.specs.declared.fault.DeviceFail.{DeviceFail}
use Rattle.ame_device.specs.Calls.{CallsOne}
use Rattle.ame_machine.specs.Run.Local.{LocalState}
use Rattle.ame_rows.specs.MemoryView.{MemoryView}
use Rattle.ame_rows.specs.Committed.{committed}
use Rattle.ame_rows.specs.Access.{put_at, born}
use Rattle.ame_machine.specs.declared.wants.Wants.{Wants}
use Rattle.ame_machine.specs.declared.wants.Wants.TheVariants as wants
use Rattle.ame_machine.specs.MachineView.{MachineView, place_shown, without_footprint, with_answer}
use Rattle.ame_machine.specs.Move.{fed_stage, closed_stage, tells_leave}
use Rattle.ame_machine.specs.Input.{value_to_set}
use Rattle.ame_machine.specs.Acting.{takes_input}
use Rattle.ame_protocol.specs.declared.types.Task.{Task}
use Rattle.ame_protocol.specs.declared.types.Attempt.{Attempt}
use Rattle.ame_protocol.specs.Engine.Parts.{Parts, task_at}
use Rattle.ame_protocol.specs.Visits.Visit.{IsVisit, has_visited, has_been_refused}
use Rattle.ame_engine.specs.declared.engine.free.change.CellChange.{CellChange}
use Rattle.ame_engine.specs.declared.engine.free.change.CellChange.TheVariants as changes
use Rattle.ame_protocol.specs.declared.stop.Stop.{Stop}
use Rattle.ame_protocol.specs.Event.Counting.{Counted, one_counted}
use Rattle.ame_engine.specs.Core.{Core}
use Rattle.ame_protocol.specs.Event.Event.{Event}
use Rattle.ame_engine.specs.Seen.{parts_of, MakesEvent, MakesLastEvent}
use Rattle.ame_engine.specs.Makes.{Makes, MakesAt}
use Rattle.ame_machine.specs.Meaning.{Meaning}
use Rattle.ame_machine.specs.RefSorts.{IsRefForm}

-- Unprotected code has come so far: it is to be fed what it wants, or it has made steps alone, and its next value isn't nested too deeply.
pub record IsVisiting (s : MachineView) : Type 0 where
  pub inside : s.inside ≡ true
  pub moved : takes_input s.want ≡ false → 0 < s.steps
  pub short : s.want ≡ Some wants.Tall → ⊥

-- Returns whether a machine wants a device.
abbrev pub wants_device : Option Wants → Bool
wants_device (Some (wants.Device device n)) = true
wants_device _ = false

-- The machine and the shared memory after a visit, with the answer of a device and the records of the devices, by what the machine wants.
-- The machine is fed a committed value, the location of a new cell, the answer of a device or the unit, or it closes, or it stays at its
-- place.
pub data VisitsTo (s : MachineView) (memory : MemoryView Val) (before : List Told) : Option ℤ → MachineView → MemoryView Val → List Told → Type 0 where
  rests : takes_input s.want ≡ false → VisitsTo s memory before None s memory before
  reads : (l : Loc) (v : Val) (n : MachineView) → s.want ≡ Some (wants.Read l) → committed memory l.0 ≡ Some v → fed_stage v s ≡ Some n
      → VisitsTo s memory before None n memory before
  peeks : (l : Loc) (v : Val) (n : MachineView) → s.want ≡ Some (wants.Peek l) → committed memory l.0 ≡ Some v → fed_stage v s ≡ Some n
      → VisitsTo s memory before None n memory before
  writes : (l : Loc) (v : Val) (n : MachineView) → s.want ≡ Some (wants.Write l) → value_to_set s ≡ Some v → fed_stage Val.Unit s ≡ Some n
      → VisitsTo s memory before None n (put_at l.0 v memory) before
  makes : (sort : Sort) (number : TyNo) (v : Val) (n : MachineView) → s.want ≡ Some (wants.Alloc sort number) → value_to_set s ≡ Some v
      → fed_stage (Val.Loc (length memory.cells)) s ≡ Some n → VisitsTo s memory before None n (born sort number v memory) before
  spawns : (n : MachineView) → s.want ≡ Some wants.Spawn → fed_stage Val.Unit s ≡ Some n → VisitsTo s memory before None n memory before
  prints : (i : ℤ) (n : MachineView) → s.want ≡ Some (wants.Print i) → fed_stage Val.Unit s ≡ Some n → VisitsTo s memory before None n memory before
  closes : (n : MachineView) → s.want ≡ Some wants.Close → closed_stage s ≡ Some n → VisitsTo s memory before None n memory before
  calls : (device : ℕ) (argument answer : ℤ) (n : MachineView) (after : List Told) → s.want ≡ Some (wants.Device device argument)
      → CallsOne before device argument (Ok answer) after → fed_stage (Val.Int answer) s ≡ Some n → VisitsTo s memory before (Some answer) n memory after

-- A visit of a member has come to a stage, with this answer of a device and with this memory.
pub record IsVisitTo (parts : Parts) (number : ℕ) (answer : Option ℤ) (n : MachineView) (memory : MemoryView Val) : Type 0 where
  pub place : LocalState
  pub visit : IsVisit parts number n.steps place n.inside memory
  pub shows : without_footprint place ≡ with_answer answer (place_shown n)

-- Returns the plain parts after such a visit.
abbrev pub visited_at : ℕ → ℕ → Option ℤ → MachineView → MemoryView Val → Parts → Parts
visited_at seat number answer n memory parts = has_visited seat number n.steps (with_answer answer (place_shown n)) n.inside memory parts

-- Returns the event of such a visit, at the place to which the run has come.
abbrev pub visits_at : ℕ → Attempt → MachineView → MemoryView Val → LocalState → Event
visits_at seat attempt n memory = λ place. Event.Visit seat attempt n.steps place n.inside memory

-- A machine that settles there stays inside, or outside.
abbrev pub SettlesThere : MachineView → Type 0
SettlesThere s = (tells_leave s.want || s.inside) ≡ s.inside

module _ {V : Type 0} where
  -- Returns a shared memory after a change.
  abbrev pub changed_by : {W : Type 0} → (V → W) → CellChange V → MemoryView W → MemoryView W
  changed_by view changes.Stays memory = memory
  changed_by view (changes.Puts l value) memory = put_at l.0 (view value) memory
  changed_by view (changes.Makes sort number value) memory = born sort number (view value) memory

  -- A change can be made: a cell that is written has no owner, and there is a location for a new cell.
  abbrev pub CanChange : MemoryView V → CellChange V → Type 0
  CanChange memory changes.Stays = Unit {0}
  CanChange memory (changes.Puts l value) = (l.0 < length memory.cells) × ForSome (slice_get memory.cells l.0) IsFree × ForSome (slice_get memory.cells l.0) CanGrow
  CanChange memory (changes.Makes sort number value) = length memory.cells < 4294967295

  -- The value that a change puts in place is good, and a new cell is a cell of a form.
  abbrev pub IsGoodChange : (V → Type 0) → (Sort → ℕ → Type 0) → CellChange V → Type 0
  IsGoodChange IsGood IsForm changes.Stays = Unit {0}
  IsGoodChange IsGood IsForm (changes.Puts l value) = IsGood value
  IsGoodChange IsGood IsForm (changes.Makes sort number value) = IsGood value × IsForm sort number.0

  -- Returns whether a change makes a cell.
  abbrev pub makes_cell : CellChange V → Bool
  makes_cell (changes.Makes sort number value) = true
  makes_cell _ = false

module _ {C V M : Type 0} (meaning : Meaning C V M) where
  -- A machine has made the step that it wanted of the committed state, if it wanted one, and the memory is to change so.
  pub record HasMadeItsStep (core : Core C V M) (old new : M) (change : CellChange V) : Type 0 where
    pub machine : meaning.is_machine core.code new
    pub visits : (told : List Told) → VisitsTo (meaning.stage core.code old) (parts_of meaning core).memory told None (meaning.stage core.code new)
        (changed_by (meaning.value_of core.code) change (parts_of meaning core).memory) told
    pub good : IsGoodChange (meaning.is_value core.code) (IsRefForm (meaning.program core.code)) change
    pub fits : CanChange core.memory change
    pub lone : makes_cell change ≡ true → (meaning.stage core.code new).spawns ≡ []

module _ {C V M : Type 0} (meaning : Meaning C V M) where
  -- A seat's member has come home from a visit that began at the place of its machine. The visit is a visit of the replayed state.
  pub record HasComeHome (seat number : ℕ) (s : MachineView) (before after : List Told) (old new : Core C V M) : Type 0 where
    pub answer : Option ℤ
    pub comes : MachineView
    pub memory : MemoryView Val
    pub visits : VisitsTo s (parts_of meaning old).memory before answer comes memory after
    pub visit : IsVisitTo (parts_of meaning old) number answer comes memory
    pub event : MakesEvent meaning (one_counted Counted.Free) (visited_at seat number answer comes memory) old new
    pub makes : (attempt : Attempt) → task_at old.tasks seat ≡ Task.Free attempt → MakesAt meaning comes answer (visits_at seat attempt comes memory) old new

  -- The device that its machine wanted has failed: its member has gone home as it was begun, and that stop is kept.
  pub record HasBeenRefused (seat number device : ℕ) (s : MachineView) (before after : List Told) (old new : Core C V M) : Type 0 where
    pub argument : ℤ
    pub wanted : s.want ≡ Some (wants.Device device argument)
    pub fails : CallsOne before device argument (Err DeviceFail.Failed) after
    pub event : MakesLastEvent meaning (Stop.DeviceFault device) (one_counted Counted.Free) (has_been_refused seat number) old new
    pub makes : (attempt : Attempt) → task_at old.tasks seat ≡ Task.Free attempt → Makes meaning (Event.Refuse seat attempt device) old new
