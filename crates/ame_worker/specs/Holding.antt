-- A seat that has the turn.
use Rattle.std.specs.Prelude.{◌≡◌, List}
use Rattle.ame_machine.specs.Meaning.{Meaning}
use Rattle.ame_protocol.specs.declared.types.Limits.{Limits}
use Rattle.ame_shell.specs.declared.work.Work.{Work}
use Rattle.ame_shell.specs.Shell.{shell_view}
use Rattle.ame_baton.specs.declared.view.Knows.{Knows}
use Rattle.ame_baton.specs.Seats.{Takes}
use Rattle.ame_worker.specs.declared.shared.Shared.{Shared}
use Rattle.ame_worker.specs.Opened.{HasRowsAndTurns}
use Rattle.ame_worker.specs.Rows.{SeatRow}
use Rattle.ame_worker.specs.Shared.{OpenedView}
use Rattle.ame_worker.specs.Turns.{TurnView, maker, HasHadTurns}
use Rattle.ame_worker.specs.Workers.{IsSeated}

module _ {M K D C V : Type 0} (meaning : Meaning C V M) where
  -- A seat took the shell, and had turns on it. Nothing was kept yet of its work in flight.
  pub record HasTheTurn (code : C) (limits : Limits) (holding : Knows (OpenedView C V M) (SeatRow M) (TurnView C V M)) (work : Work M)
      (shared : Shared M K D C V) : Type 0 where
    pub before : Knows (OpenedView C V M) (SeatRow M) (TurnView C V M)
    pub seated : IsSeated meaning.signature code limits before
    pub taken : Shared M K D C V
    pub takes : Takes (HasRowsAndTurns meaning) maker before taken holding
    pub had : Work M
    pub led : List (TurnView C V M)
    pub turns : HasHadTurns meaning code holding.number had (shell_view taken.shell.value) taken.turns (shell_view shared.shell.value) shared.turns work led
    pub places : shared.places ≡ taken.places
