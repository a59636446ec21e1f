-- Events whose steps are at no form that would become a value nested too deeply.
use Rattle.std.specs.Prelude.{ℕ, List, [], ◌∷◌, ⊤}
use Rattle.ame_term.specs.Frame.{Side}
use Rattle.ame_machine.specs.Run.Local.{begun_with}
use Rattle.ame_machine.specs.MachineView.{MachineView, running_side}
use Rattle.ame_machine.specs.Move.{GoesLow}
use Rattle.ame_rows.specs.MemoryView.{row_at}
use Rattle.ame_protocol.specs.declared.types.Attempt.{Attempt}
use Rattle.ame_protocol.specs.declared.types.Task.{Task}
use Rattle.ame_protocol.specs.Row.SeatRun.{SeatRun}
use Rattle.ame_protocol.specs.Engine.Parts.{Parts, task_at, term_at, run_in}
use Rattle.ame_protocol.specs.Event.EngineState.{EngineState}
use Rattle.ame_protocol.specs.Event.Event.{Event}
use Rattle.ame_protocol.specs.Event.After.{after}
use Rattle.ame_engine.specs.AtWork.{IsOnSeat}

-- none of the first n steps of a row is at such a form
abbrev pub RowGoesLow : SeatRun → ℕ → Type 0
RowGoesLow run n = GoesLow Side.Protected (begun_with run.start run.inputs) n

-- nor of the run of a seat's machine
abbrev pub MachineGoesLow : Parts → ℕ → Attempt → MachineView → ℕ → Type 0
MachineGoesLow parts seat attempt m n =
    GoesLow (running_side m) (begun_with (term_at parts.pool attempt.tried.number) (row_at parts.memory.rows seat).inputs) n

-- nor of what a seat has at work
abbrev pub WorkGoesLow : Parts → ℕ → Task → ℕ → Type 0
WorkGoesLow parts seat (Task.Running attempt) n = RowGoesLow (run_in parts seat attempt.tried.number) n
WorkGoesLow parts seat (Task.Free attempt) n = GoesLow Side.Unprotected (begun_with (term_at parts.pool attempt.tried.number) []) n
WorkGoesLow parts seat _ n = ⊤

-- nor of the seat that an event adds an entry for, in as many steps as the entry has
abbrev pub GoesLowBy : Event → Parts → Type 0
GoesLowBy (Event.End seat attempt steps place woken) parts = WorkGoesLow parts seat (task_at parts.tasks seat) steps
GoesLowBy (Event.Leave seat attempt steps place woken) parts = WorkGoesLow parts seat (task_at parts.tasks seat) steps
GoesLowBy (Event.Note seat attempt steps place) parts = WorkGoesLow parts seat (task_at parts.tasks seat) steps
GoesLowBy (Event.Visit seat attempt steps place inside memory) parts = WorkGoesLow parts seat (task_at parts.tasks seat) steps
GoesLowBy (Event.Cut seat attempt steps place) parts = WorkGoesLow parts seat (task_at parts.tasks seat) steps
GoesLowBy (Event.Tall seat attempt steps place) parts = WorkGoesLow parts seat (task_at parts.tasks seat) steps
GoesLowBy _ parts = ⊤

-- so it is of each of these events
abbrev pub GoLow : EngineState → List Event → Type 0
GoLow s [] = ⊤
GoLow s (e ∷ es) = GoesLowBy e s.parts × GoLow (after e s) es

-- A machine stands on the run of its seat, and no step up to there was at such a form.
pub record IsLowOnSeat (parts : Parts) (seat : ℕ) (s : MachineView) : Type 0 where
  pub on : IsOnSeat parts seat s
  pub low : MachineGoesLow parts seat on.attempt s s.steps
