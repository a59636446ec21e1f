-- When each event may be.
use Rattle.std.specs.Prelude.{◌≡◌, ℕ, ◌+◌, ◌<◌, ◌≤◌, ◌⊎◌, Bool, true, false, List, length, Contains, Some, None}
use Rattle.ame_term.specs.Tree.{Val}
use Rattle.ame_term.specs.Frame.{Side}
use Rattle.ame_term.specs.Context.{focus}
use Rattle.ame_term.specs.State.{at_value, at_unprotected}
use Rattle.ame_journal.specs.Replayed.{is_false_condition}
use Rattle.ame_term.specs.Act.{Act}
use Rattle.ame_store.specs.Cells.{HasItsParity, IsFree, IsOwnedBy}
use Rattle.ame_pool.specs.declared.oldest.Oldest.{Oldest}
use Rattle.ame_pool.specs.Members.{is_ready}
use Rattle.ame_pool.specs.Begin.{oldest}
use Rattle.ame_pool.specs.Calls.{IsAt}
use Rattle.ame_machine.specs.Run.Local.{LocalState}
use Rattle.ame_machine.specs.Run.Told.{IsTooHigh}
use Rattle.ame_rows.specs.MemoryView.{MemoryView, row_at}
use Rattle.ame_protocol.specs.declared.types.Attempt.{Attempt}
use Rattle.ame_protocol.specs.declared.types.Task.{Task}
use Rattle.ame_protocol.specs.Row.SeatRun.{HasUsed, ComesTo, AreValid}
use Rattle.ame_protocol.specs.Engine.Parts.{heap_in, task_at, attempt_of, run_in, working}
use Rattle.ame_protocol.specs.Visits.Visit.{IsVisit}
use Rattle.ame_protocol.specs.Visits.Stops.{MayBeNoted}
use Rattle.ame_protocol.specs.declared.stop.Stop.{Stop}
use Rattle.ame_protocol.specs.Event.Bounds.{LeavesNoTry}
use Rattle.ame_protocol.specs.Event.Causes.{IsCause, only_seats_keep}
use Rattle.ame_protocol.specs.Event.Faults.{LeadsToCall}
use Rattle.ame_protocol.specs.Event.Undoing.{is_undoing}
use Rattle.ame_protocol.specs.Event.EngineState.{EngineState, cell}
use Rattle.ame_protocol.specs.Event.Event.{Event, Reverse}

-- No stop is kept, and a turn is left.
pub record HasATurn (s : EngineState) : Type 0 where
  pub going : s.stop ≡ None
  pub left : s.parts.turns < s.parts.limits.turns

-- Begin: the oldest member that may begin is this one, and it is ready.
pub record MayBegin (s : EngineState) (seat number : ℕ) : Type 0 where
  pub idle : task_at s.parts.tasks seat ≡ Task.Idle
  pub there : seat < s.parts.limits.seats
  pub first : oldest s.parts.pool ≡ Oldest.Member number
  pub ready : IsAt is_ready number s.parts.pool

-- Read, write, make a cell: protected code of the seat has come to this act, before its slice was full.
pub record ComesToAct (s : EngineState) (seat : ℕ) (act : Act) : Type 0 where
  pub attempt : Attempt
  pub task : task_at s.parts.tasks seat ≡ Task.Running attempt
  pub steps : ℕ
  pub place : LocalState
  pub comes : ComesTo (run_in s.parts seat attempt.tried.number) act steps place
  pub early : steps < attempt.tried.steps + s.parts.limits.slice

-- Check, end, leave, note: protected code of the seat has come to this place, and has used all that it was given.
pub record HasRunTo (s : EngineState) (seat : ℕ) (attempt : Attempt) (steps : ℕ) (place : LocalState) : Type 0 where
  pub task : task_at s.parts.tasks seat ≡ Task.Running attempt
  pub used : HasUsed (run_in s.parts seat attempt.tried.number) steps place
  pub more : attempt.tried.steps ≤ steps

-- Each read that the seat has logged is valid. The cell is there for all, and still has its number, or the seat itself took it then.
abbrev pub ReadsAreValid : EngineState → ℕ → Type 0
ReadsAreValid s seat = AreValid (heap_in s.parts) seat (row_at s.parts.memory.rows seat).reads

-- The commit wakes each member that watches a cell of the seat.
abbrev pub WakesWatchers : EngineState → ℕ → List ℕ → Type 0
WakesWatchers s seat woken = (l : ℕ) → IsOwnedBy seat (cell s l) → Contains woken l

-- Turn back, wherever the run stands: the cell is another seat's, or some read isn't valid.
abbrev pub IsReversed : EngineState → ℕ → Reverse → Type 0
IsReversed s seat (Reverse.Met l owner) = IsOwnedBy owner (cell s l.0) × (owner ≡ seat → ⊥)
IsReversed s seat (Reverse.Stale find) = ReadsAreValid s seat → ⊥

-- Visit: unprotected code of the seat comes to this place.
pub record MayVisit (s : EngineState) (seat : ℕ) (attempt : Attempt) (steps : ℕ) (place : LocalState) (inside : Bool) (memory : MemoryView Val) : Type 0 where
  pub task : task_at s.parts.tasks seat ≡ Task.Free attempt
  pub visit : IsVisit s.parts attempt.tried.number steps place inside memory
  pub more : attempt.tried.steps ≤ steps

-- Undo, go home: the seat undoes what it has at work. Once a stop is kept each seat does, and this takes no turn.
pub record MayUndo (s : EngineState) (seat : ℕ) (attempt : Attempt) : Type 0 where
  pub has : attempt_of (task_at s.parts.tasks seat) ≡ Some attempt
  pub undoes : s.parts.stopped ≡ false → is_undoing (task_at s.parts.tasks seat) ≡ true
  pub left : s.parts.stopped ≡ false → s.parts.turns < s.parts.limits.turns

-- Cut, tall: the seat has code at work that may be noted at this place, on a side of `unprotected`.
pub record MayNote (s : EngineState) (seat : ℕ) (attempt : Attempt) (side : Side) (steps : ℕ) (place : LocalState) : Type 0 where
  pub works : working (task_at s.parts.tasks seat) ≡ Some attempt
  pub may : MayBeNoted s.parts seat (task_at s.parts.tasks seat) side attempt.tried.number steps place
  pub more : attempt.tried.steps ≤ steps

-- Halt: no stop is kept, and this one has its cause. It isn't a stop that only an event of a seat keeps. With one seat no attempt is
-- left without an entry if the turns are used up.
pub record MayHalt (s : EngineState) (why : Stop) : Type 0 where
  pub none : s.stop ≡ None
  pub cause : IsCause (Some why) s.parts
  pub apart : only_seats_keep why ≡ false
  pub leaves : LeavesNoTry why s.parts

-- An event may happen in a state.
abbrev pub May : Event → EngineState → Type 0
May (Event.Begin seat number) s = HasATurn s × MayBegin s seat number
May (Event.Read seat l) s = HasATurn s × ComesToAct s seat (Act.Reads l.0) × HasItsParity (cell s l.0)
May (Event.Write seat l v) s = HasATurn s × ComesToAct s seat (Act.Writes l.0 v) × (IsFree (cell s l.0) ⊎ IsOwnedBy seat (cell s l.0))
May (Event.Alloc seat sort ty v) s = HasATurn s × ComesToAct s seat (Act.Allocates sort ty v)
May (Event.Check seat attempt steps) s =
    HasATurn s × ((place : LocalState) × HasRunTo s seat attempt steps place) × ReadsAreValid s seat × (steps ≡ attempt.tried.steps + s.parts.limits.slice)
May (Event.TurnBack seat attempt why) s = HasATurn s × (task_at s.parts.tasks seat ≡ Task.Running attempt) × IsReversed s seat why
May (Event.End seat attempt steps place woken) s =
    HasATurn s × HasRunTo s seat attempt steps place × ReadsAreValid s seat × (at_value (focus place.term) ≡ true) × WakesWatchers s seat woken
May (Event.Leave seat attempt steps place woken) s =
    HasATurn s × HasRunTo s seat attempt steps place × ReadsAreValid s seat × (at_unprotected (focus place.term) ≡ true) × WakesWatchers s seat woken
May (Event.Note seat attempt steps place) s =
    HasATurn s × HasRunTo s seat attempt steps place × ReadsAreValid s seat × (is_false_condition (focus place.term) ≡ true)
May (Event.Visit seat attempt steps place inside memory) s = HasATurn s × MayVisit s seat attempt steps place inside memory
May (Event.Refuse seat attempt device) s = HasATurn s × (task_at s.parts.tasks seat ≡ Task.Free attempt) × LeadsToCall s.parts device
May (Event.Undo seat attempt) s = MayUndo s seat attempt × (1 < length (row_at s.parts.memory.rows seat).undos)
May (Event.Home seat attempt) s = MayUndo s seat attempt × (length (row_at s.parts.memory.rows seat).undos ≤ 1)
May (Event.Cut seat attempt steps place) s =
    (s.stop ≡ None) × (s.parts.turns ≡ s.parts.limits.turns) × ((side : Side) × MayNote s seat attempt side steps place)
May (Event.Tall seat attempt steps place) s = HasATurn s × ((side : Side) × MayNote s seat attempt side steps place × IsTooHigh side place)
May (Event.Halt why) s = MayHalt s why
