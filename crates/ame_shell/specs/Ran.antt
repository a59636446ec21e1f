-- The events of a run, from its opening to its end.
use Rattle.std.specs.Prelude.{◌≡◌, ◌⊎◌, List, [], map, Some}
use Rattle.ame_term.specs.Tree.{Val, Tree}
use Rattle.ame_term.specs.Signature.{Signature}
use Rattle.ame_laws.specs.Typed.StoreTyping.{StoreTyping}
use Rattle.ame_laws.specs.Typed.TypedState.{IsTyped}
use Rattle.ame_store.specs.declared.cell.Cell.{Cell}
use Rattle.ame_pool.specs.Roster.{Roster}
use Rattle.ame_journal.specs.declared.entry.Entry.{Entry}
use Rattle.ame_journal.specs.Replayed.{Replayed}
use Rattle.ame_journal.specs.Replay.{replay}
use Rattle.ame_protocol.specs.declared.types.Limits.{Limits}
use Rattle.ame_protocol.specs.Row.Shown.{shown_cell}
use Rattle.ame_protocol.specs.Visits.Opened.{AreOpened, AreAllReady, HasMembersOf}
use Rattle.ame_protocol.specs.Event.Event.{Event}
use Rattle.ame_protocol.specs.Event.Runs.{Follows, entries_along}
use Rattle.ame_protocol.specs.Event.EngineState.{EngineState, started_state, opened_state}
use Rattle.ame_engine.specs.Ending.{End}
use Rattle.ame_shell.specs.Low.{GoLow}

-- A base leads to this state, with all members ready and each seat idle, and nothing is counted.
pub record GoesOnFrom (program : Tree) (signature : Signature) (limits : Limits) (base : List Entry) (s : EngineState) : Type 0 where
  pub led : Replayed
  pub replayed : replay program base ≡ Some led
  pub types : StoreTyping
  pub typed : IsTyped signature types led.state
  pub cells : List (Cell Val)
  pub has_cells : AreOpened signature types cells led.state
  pub pool : Roster Tree
  pub has_members : HasMembersOf led pool
  pub ready : AreAllReady pool
  pub state : s ≡ opened_state program signature limits base cells pool led.state.output led.state.next

-- A state from which a run goes on: the one of a program that has just started, if the base is empty, or one to which the base leads.
abbrev pub IsStart : Tree → Signature → Limits → List Entry → EngineState → Type 0
IsStart program signature limits base s = ((base ≡ []) × (s ≡ started_state program signature limits)) ⊎ GoesOnFrom program signature limits base s

-- an end has what a state has
pub record EndsAs {V : Type 0} (value : V → Val) (s : EngineState) (end : End V) : Type 0 where
  pub base : s.parts.base ≡ end.base
  pub entries : s.parts.entries ≡ end.entries
  pub cells : s.parts.memory.cells ≡ map (shown_cell value) end.cells
  pub output : s.parts.output ≡ end.output
  pub turns : s.parts.turns ≡ end.turns
  pub tried : s.parts.tried ≡ end.tried
  pub counters : s.counters ≡ end.counters
  pub stop : s.stop ≡ end.stop
  pub certificates : s.certificates ≡ end.certificates

-- Events led from a start to this end, each when it may come, and what they add to the journal are the entries of the end. None of their
-- steps was at a form that would become a value nested too deeply.
pub record IsRanBy (program : Tree) (signature : Signature) (limits : Limits) (base : List Entry) {V : Type 0} (value : V → Val) (end : End V) : Type 0 where
  pub start : EngineState
  pub starts : IsStart program signature limits base start
  pub events : List Event
  pub last : EngineState
  pub follows : Follows start events last
  pub low : GoLow start events
  pub told : entries_along events ≡ end.entries
  pub ends : EndsAs value last end
