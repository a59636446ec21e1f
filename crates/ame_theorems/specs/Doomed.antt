-- Attempts that can't commit as they are.
use Rattle.std.specs.Prelude.{◌≡◌, ℕ, Option, Some, None}
use Rattle.ame_protocol.specs.declared.types.Attempt.{Attempt}
use Rattle.ame_protocol.specs.declared.types.Task.{Task}
use Rattle.ame_protocol.specs.Engine.Parts.{task_at}
use Rattle.ame_protocol.specs.Event.EngineState.{EngineState}
use Rattle.ame_protocol.specs.Event.Event.{Event}
use Rattle.ame_protocol.specs.Event.May.{ReadsAreValid}

-- Returns the seat that makes an event. A halt is an event of no seat.
abbrev pub seat_of : Event → Option ℕ
seat_of (Event.Begin seat number) = Some seat
seat_of (Event.Read seat l) = Some seat
seat_of (Event.Write seat l v) = Some seat
seat_of (Event.Alloc seat sort ty v) = Some seat
seat_of (Event.Check seat attempt steps) = Some seat
seat_of (Event.TurnBack seat attempt why) = Some seat
seat_of (Event.End seat attempt steps place woken) = Some seat
seat_of (Event.Leave seat attempt steps place woken) = Some seat
seat_of (Event.Note seat attempt steps place) = Some seat
seat_of (Event.Visit seat attempt steps place inside memory) = Some seat
seat_of (Event.Refuse seat attempt device) = Some seat
seat_of (Event.Undo seat attempt) = Some seat
seat_of (Event.Home seat attempt) = Some seat
seat_of (Event.Cut seat attempt steps place) = Some seat
seat_of (Event.Tall seat attempt steps place) = Some seat
seat_of (Event.Halt why) = None

-- The attempt of a seat is doomed: the seat runs protected code, and one of its reads isn't valid any more.
pub record IsDoomed (s : EngineState) (seat : ℕ) : Type 0 where
  pub attempt : Attempt
  pub runs : task_at s.parts.tasks seat ≡ Task.Running attempt
  pub stale : ReadsAreValid s seat → ⊥
