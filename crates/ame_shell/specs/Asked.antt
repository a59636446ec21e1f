-- The request of a turn, by the seat's work in flight.
use Rattle.std.specs.Prelude.{◌≡◌, ℕ, ◌≤◌, ◌<◌, ◌⊎◌, Bool, true, false, Option, Some, None, is_some}
use Rattle.ame_rows.specs.Valid.{IsValid}
use Rattle.ame_rows.specs.MemoryView.{row_at}
use Rattle.ame_machine.specs.declared.wants.Wants.{Wants}
use Rattle.ame_machine.specs.declared.wants.Wants.TheVariants as wants
use Rattle.ame_machine.specs.MachineView.{MachineView}
use Rattle.ame_machine.specs.Acting.{takes_input}
use Rattle.ame_protocol.specs.declared.types.Task.{Task}
use Rattle.ame_protocol.specs.Engine.Parts.{task_at}
use Rattle.ame_engine.specs.Core.{Core}
use Rattle.ame_engine.specs.Begins.{pick_of, takes_memory}
use Rattle.ame_engine.specs.Committing.{IsCommitting}
use Rattle.ame_protocol.specs.Event.Undoing.{is_undoing}
use Rattle.ame_shell.specs.declared.work.Outcome.{Outcome}
use Rattle.ame_shell.specs.declared.work.Work.{Work}
use Rattle.ame_shell.specs.Work.{stage_at}
use Rattle.ame_shell.specs.Ready.{IsReadyWork}

-- whether reads are checked at a full slice before this is done
abbrev pub waits_for_check : Option Wants → Bool
waits_for_check (Some (wants.Read l)) = true
waits_for_check (Some (wants.Write l)) = true
waits_for_check (Some (wants.Alloc sort number)) = true
waits_for_check (Some wants.OutOfFuel) = true
waits_for_check _ = false

-- whether a machine is handed in at its turn: its fragment is over, or it is inside, and doesn't come to a value nested too deeply
abbrev pub is_handed_in : Wants → Bool → Bool
is_handed_in wants.Tall inside = false
is_handed_in wants.Done inside = true
is_handed_in wants.Leave inside = true
is_handed_in _ inside = inside

module _ {C V M : Type 0} (core : Core C V M) (hand : Option MachineView) where
  -- a seat goes on with its machine: no stop is kept, and turns are left
  pub record IsToGoOn (s : MachineView) : Type 0 where
    pub met : hand ≡ Some s
    pub going : core.stop ≡ None
    pub left : core.turns < core.limits.turns

  -- a machine with which its seat goes on has come to this
  pub record AsksFor (s : MachineView) (want : Wants) : Type 0 where
    pub goes : IsToGoOn s
    pub wants : s.want ≡ Some want

  -- protected code has come to this
  pub record AsksAsProtected (s : MachineView) (want : Wants) : Type 0 where
    pub asks : AsksFor s want
    pub outside : s.inside ≡ false

  -- protected code whose slice is not full has come to this
  pub record Accesses (s : MachineView) (want : Wants) : Type 0 where
    pub runs : AsksAsProtected s want
    pub early : s.since < core.limits.slice

  -- protected code whose slice is full, so that its reads are checked first
  pub record IsToCheck (s : MachineView) : Type 0 where
    pub goes : IsToGoOn s
    pub outside : s.inside ≡ false
    pub waits : waits_for_check s.want ≡ true
    pub full : s.since ≡ core.limits.slice

  -- it has ended, or leaves
  pub record IsToCommit (s : MachineView) : Type 0 where
    pub goes : IsToGoOn s
    pub commits : IsCommitting s

  -- it is unprotected code
  pub record IsToVisit (s : MachineView) : Type 0 where
    pub goes : IsToGoOn s
    pub inside : s.inside ≡ true
    pub short : s.want ≡ Some wants.Tall → ⊥

module _ {C V M : Type 0} (core : Core C V M) where
  -- no stop is kept, and the turns are used up
  pub record HasNoTurnsLeft : Type 0 where
    pub going : core.stop ≡ None
    pub none_left : core.limits.turns ≤ core.turns

  -- a seat is to undo: a stop is kept, or it turned back or is noted, and turns are left
  pub record IsToUndo (seat : ℕ) : Type 0 where
    pub why : (is_some core.stop ≡ true) ⊎ (is_undoing (task_at core.tasks seat) ≡ true)
    pub left : is_some core.stop ≡ false → core.turns < core.limits.turns

  -- each read of the seat is valid
  abbrev pub AreAllValid : ℕ → Type 0
  AreAllValid seat = IsValid core.memory.cells seat (row_at core.memory.rows seat).reads

module _ {C V M : Type 0} (core : Core C V M) (seat : ℕ) (hand : Option MachineView) where
  -- An event that takes memory is due: a member begins or all are parked, protected code accesses a cell, a row whose reads are valid
  -- is committed or noted, or unprotected code is visited.
  pub data IsToTakeMemory : Type 0 where
    begins : task_at core.tasks seat ≡ Task.Idle → takes_memory (pick_of core) ≡ true → IsToTakeMemory
    accesses : (s : MachineView) (want : Wants) → Accesses core hand s want → takes_input (Some want) ≡ true → IsToTakeMemory
    commits : (s : MachineView) → IsToCommit core hand s → AreAllValid core seat → IsToTakeMemory
    notes : (s : MachineView) → AsksAsProtected core hand s wants.Block → AreAllValid core seat → IsToTakeMemory
    grows : (s : MachineView) → AsksFor core hand s wants.Tall → AreAllValid core seat → IsToTakeMemory
    visits : (s : MachineView) → IsToVisit core hand s → IsToTakeMemory
    cuts : (s : MachineView) → hand ≡ Some s → HasNoTurnsLeft core → AreAllValid core seat → IsToTakeMemory

  -- memory runs out only if such an event is due
  abbrev pub LacksWhereDue : Outcome → Type 0
  LacksWhereDue Outcome.Lacked = IsToTakeMemory
  LacksWhereDue _ = Unit {0}

module _ {C V M : Type 0} (stage : C → M → MachineView) (core : Core C V M) (seat : ℕ) (hand : Work M) where
  -- A seat runs out of memory if its machine isn't ready, and otherwise only if an event is due that takes memory.
  pub record LacksAsDue (outcome : Outcome) : Type 0 where
    pub unready : (IsReadyWork stage core.code core.limits.slice hand → ⊥) → core.stop ≡ None → outcome ≡ Outcome.Lacked
    pub due : IsReadyWork stage core.code core.limits.slice hand → LacksWhereDue core seat (stage_at stage core.code hand) outcome
