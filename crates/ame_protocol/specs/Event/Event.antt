-- The events of a runtime.
use Rattle.std.specs.Prelude.{ℕ, List, Bool}
use Rattle.ame_term.specs.Tree.{Val}
use Rattle.ame_term.specs.declared.types.Loc.{Loc}
use Rattle.ame_term.specs.declared.types.Sort.{Sort}
use Rattle.ame_term.specs.declared.types.TyNo.{TyNo}
use Rattle.ame_machine.specs.Run.Local.{LocalState}
use Rattle.ame_rows.specs.MemoryView.{MemoryView}
use Rattle.ame_protocol.specs.declared.types.Attempt.{Attempt}
use Rattle.ame_protocol.specs.declared.stop.Stop.{Stop}

-- A seat finds that one of its reads isn't valid after a full slice, at an end, at a false condition, or at a value nested too deeply.
pub data Find : Type 0 where
  Check : Find
  Commit : Find
  Block : Find
  Tall : Find

-- A seat turns back because a cell that it is to write is another seat's, or because one of its reads isn't valid.
pub data Reverse : Type 0 where
  Met : (l : Loc) (owner : ℕ) → Reverse
  Stale : (find : Find) → Reverse

-- The events. Each but the last is an event of a seat. An attempt is the work of a seat: a member, and the steps of its run at the last
-- valid check. The steps of an event are the number of steps after which the run has come to the place.
pub data Event : Type 0 where
  -- an idle seat begins a member
  Begin : (seat number : ℕ) → Event
  -- protected code reads, writes or makes a cell
  Read : (seat : ℕ) (l : Loc) → Event
  Write : (seat : ℕ) (l : Loc) (v : Val) → Event
  Alloc : (seat : ℕ) (sort : Sort) (ty : TyNo) (v : Val) → Event
  -- after a full slice each read is valid
  Check : (seat : ℕ) (attempt : Attempt) (steps : ℕ) → Event
  -- the seat turns back, and is to undo what it did
  TurnBack : (seat : ℕ) (attempt : Attempt) (why : Reverse) → Event
  -- its member ends, or comes to `unprotected`: the row is committed, and the members that watch the woken locations are woken
  End : (seat : ℕ) (attempt : Attempt) (steps : ℕ) (place : LocalState) (woken : List ℕ) → Event
  Leave : (seat : ℕ) (attempt : Attempt) (steps : ℕ) (place : LocalState) (woken : List ℕ) → Event
  -- its member came to a condition that is false: this is noted, and the row is to be undone
  Note : (seat : ℕ) (attempt : Attempt) (steps : ℕ) (place : LocalState) → Event
  -- unprotected code makes steps and then one act, or closes; it is still inside or not, and leaves this memory
  Visit : (seat : ℕ) (attempt : Attempt) (steps : ℕ) (place : LocalState) (inside : Bool) (memory : MemoryView Val) → Event
  -- a device fails in a call of unprotected code
  Refuse : (seat : ℕ) (attempt : Attempt) (device : ℕ) → Event
  -- the last entry of the undo log is undone, and others are left; or none is left, and the member goes home
  Undo : (seat : ℕ) (attempt : Attempt) → Event
  Home : (seat : ℕ) (attempt : Attempt) → Event
  -- the turns are used up, and the place of the row is noted
  Cut : (seat : ℕ) (attempt : Attempt) (steps : ℕ) (place : LocalState) → Event
  -- the next value of the run would be nested too deeply, and its place is noted
  Tall : (seat : ℕ) (attempt : Attempt) (steps : ℕ) (place : LocalState) → Event
  -- the runtime keeps a stop without an entry
  Halt : (why : Stop) → Event
