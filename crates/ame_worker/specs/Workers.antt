-- A worker between its turns.
use Rattle.ame_term.specs.Signature.{Signature}
use Rattle.std.specs.Prelude.{◌≡◌, ◌≤◌, ◌<◌, true, false, Some, length}
use Rattle.ame_machine.specs.Meaning.{Meaning}
use Rattle.ame_protocol.specs.declared.types.Limits.{Limits}
use Rattle.ame_protocol.specs.declared.types.Task.{Task}
use Rattle.ame_engine.specs.Whole.{AreLimits}
use Rattle.ame_shell.specs.declared.work.Work.{Work}
use Rattle.ame_shell.specs.Ready.{CanBePrepared, IsPrepared}
use Rattle.ame_baton.specs.declared.view.Knows.{Knows}
use Rattle.ame_worker.specs.Shared.{OpenedView}
use Rattle.ame_worker.specs.Turns.{TurnView}
use Rattle.ame_worker.specs.Rows.{SeatRow}

-- A seat is one of a shell that was opened with this code and these limits, and with devices enough.
pub record IsSeated {C V M : Type 0} (signature : C → Signature) (code : C) (limits : Limits) (k : Knows (OpenedView C V M) (SeatRow M) (TurnView C V M)) : Type 0 where
  pub opened : OpenedView C V M
  pub is : k.fixed ≡ Some opened
  pub of_code : opened.made.core.code ≡ code
  pub of_limits : opened.made.core.limits ≡ limits
  pub ranges : AreLimits limits
  pub enough : (signature code).devices ≤ length opened.made.ends.told
  pub number : k.number < limits.seats
  pub seats : k.seats ≡ limits.seats

module _ {C V M : Type 0} (meaning : Meaning C V M) where
  -- It hasn't the turn. Its work in flight is what it had when it gave the turn, but for steps that its machine made alone.
  pub record IsReadyToTurn (code : C) (limits : Limits) (k : Knows (OpenedView C V M) (SeatRow M) (TurnView C V M)) (hand : Work M) : Type 0 where
    pub seated : IsSeated meaning.signature code limits k
    pub free : k.holds ≡ false
    pub prepared : IsPrepared meaning.is_machine meaning.stage code limits.slice k.row.hand hand
    pub can : CanBePrepared meaning.is_machine meaning.stage code limits.slice hand

-- It has nothing at work, and a stop was kept when it gave the turn.
pub record IsThrough {C V M : Type 0} (k : Knows (OpenedView C V M) (SeatRow M) (TurnView C V M)) : Type 0 where
  pub free : k.holds ≡ false
  pub idle : k.row.task ≡ Task.Idle
  pub marked : k.row.marked ≡ true
