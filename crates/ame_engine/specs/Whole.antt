-- The invariant of each engine.
use Rattle.std.specs.Prelude.{◌≡◌, ℕ, ◌≤◌, Bool, All}
use Rattle.ame_io.specs.Lines.{lines}
use Rattle.ame_term.specs.Tree.{Tree}
use Rattle.ame_term.specs.declared.types.Sort.{Sort}
use Rattle.ame_rows.specs.declared.notes.Undo.{Undo}
use Rattle.ame_rows.specs.declared.notes.Undo.TheVariants.{Wrote, Made}
use Rattle.ame_pool.specs.declared.member.Member.{Member}
use Rattle.ame_rows.specs.MemoryView.{Log, MemoryView}
use Rattle.ame_machine.specs.MachineView.{MachineView, starting_at}
use Rattle.ame_protocol.specs.declared.types.Limits.{Limits}
use Rattle.ame_engine.specs.Core.{Core}
use Rattle.ame_engine.specs.Places.{HasPlacesFor}
use Rattle.ame_machine.specs.Meaning.{Meaning}
use Rattle.ame_machine.specs.RefSorts.{IsRefForm}
use Rattle.ame_protocol.specs.Event.Sound.{Sound}
use Rattle.ame_engine.specs.Makes.{state_of}

-- The limits of an engine are in range.
pub record AreLimits (limits : Limits) : Type 0 where
  pub some_turns : 1 ≤ limits.turns
  pub turns : limits.turns ≤ 4000000
  pub some_slice : 1 ≤ limits.slice
  pub slice : limits.slice ≤ 1000
  pub some_seats : 1 ≤ limits.seats
  pub seats : limits.seats ≤ 32

module _ {V : Type 0} (IsGood : V → Type 0) where
  -- Each value that an entry would put back is good.
  abbrev pub IsGoodUndo : Undo V → Type 0
  IsGoodUndo (Wrote l number old) = IsGood old
  IsGoodUndo (Made l) = Unit {0}

  -- Each value of the logs is good.
  pub record IsGoodLog (notes : Log V) : Type 0 where
    pub inputs : All IsGood notes.inputs
    pub undos : All IsGoodUndo notes.undos

  -- Each value in a shared memory is good, and the sort and the number of each cell are those of a form.
  pub record IsGoodMemory (IsForm : Sort → ℕ → Type 0) (memory : MemoryView V) : Type 0 where
    pub cells : All (λ cell. IsGood cell.value) memory.cells
    pub forms : All (λ cell. IsForm cell.sort cell.ty.0) memory.cells
    pub rows : All IsGoodLog memory.rows

-- Returns the stage of a machine that has made no step, and holds nothing back.
abbrev pub resting_at : Tree → Bool → MachineView
resting_at term inside = record (starting_at term) { inside = inside }

module _ {C M : Type 0} (is_machine : C → M → Type 0) (stage : C → M → MachineView) where
  -- A member's machine is one of the code, and rests.
  pub record IsAtRest (code : C) (m : Member M) : Type 0 where
    pub machine : is_machine code m.machine
    pub rests : stage code m.machine ≡ resting_at (stage code m.machine).term m.inside

module _ {C V M : Type 0} (meaning : Meaning C V M) where
  -- The state is sound: what each event keeps. The limits are in range, each value in the memory is one of the code, each cell has
  -- the number of a `ref` form of its sort, the members' machines are at rest, and the text is the lines of the output.
  pub record IsSound (core : Core C V M) : Type 0 where
    pub state : Sound (state_of meaning core)
    pub limits : AreLimits core.limits
    pub memory : IsGoodMemory (meaning.is_value core.code) (IsRefForm (meaning.program core.code)) core.memory
    pub members : All (IsAtRest meaning.is_machine meaning.stage core.code) core.pool.members
    pub text : core.text ≡ lines core.output

  -- Contracts don't see the rest of the invariant: the list of attempts has free places for those that may follow.
  pub record IsEngine (core : Core C V M) (tries capacity : ℕ) : Type 0 where
    pub whole : IsSound core
    pub places : HasPlacesFor core.tasks tries capacity
