-- The effect of a seat's turns on the seat's knowledge.
use Rattle.std.specs.Prelude.{◌≡◌, ◌≢◌, ℕ, ◌++◌, ◌⊎◌, Bool, false, List, [], ◌∷◌, All, Some}
use Rattle.ame_machine.specs.Meaning.{Meaning}
use Rattle.ame_engine.specs.Seen.{parts_of}
use Rattle.ame_shell.specs.declared.work.Work.{Work}
use Rattle.ame_shell.specs.Shell.{ShellView}
use Rattle.ame_baton.specs.declared.view.Knows.{Knows}
use Rattle.ame_baton.specs.Keeping.{KeepsSeat}
use Rattle.ame_worker.specs.Rows.{SeatRow, row_of}
use Rattle.ame_worker.specs.Shared.{OpenedView, keeping}
use Rattle.ame_worker.specs.Slots.{slot_at}
use Rattle.ame_protocol.specs.declared.types.Limits.{Limits}
use Rattle.ame_baton.specs.Seats.{IsElsewhere}
use Rattle.ame_worker.specs.declared.gate.Point.{Point}
use Rattle.ame_worker.specs.Leads.{LeadsUntilHandover}
use Rattle.ame_worker.specs.Points.{point_of}
use Rattle.ame_worker.specs.Turns.{TurnView, member_of_turn, AreTurnsBetween, AreOfSeat}

module _ {C V M : Type 0} (meaning : Meaning C V M) where
  -- A seat took the turn, had these turns, and gave the turn. The turns that it had seen lead to the shell as it left it, those that other
  -- seats had meanwhile to the shell that it took, in which it finds its reads, inputs, undo log and start as they were, and its own to
  -- the shell that it gave, as its row says.
  pub record HasLed (code : C) (slice : ℕ) (before after : Knows (OpenedView C V M) (SeatRow M) (TurnView C V M)) (old new : Work M)
      (led : List (TurnView C V M)) : Type 0 where
    pub keeps : KeepsSeat before after
    pub free : after.holds ≡ false
    pub opened : OpenedView C V M
    pub is : before.fixed ≡ Some opened
    pub others : List (TurnView C V M)
    pub apart : All (λ t. t.seat ≢ before.number) others
    pub seen : after.seen ≡ (before.seen ++ others) ++ led
    pub own : after.own ≡ before.own ++ led
    pub left : ShellView C V M
    pub taken : ShellView C V M
    pub given : ShellView C V M
    pub before_it : AreTurnsBetween meaning opened.first before.seen left
    pub meanwhile : AreTurnsBetween meaning left others taken
    pub found : slot_at (parts_of meaning taken.core) before.number ≡ slot_at (parts_of meaning left.core) before.number
    pub its : AreTurnsBetween meaning taken led given
    pub each : AreOfSeat meaning code slice before.number old led new
    pub row : after.row ≡ row_of given.core before.number (keeping given.core new)

  -- A seat had one turn, which the point names.
  pub record HasHadTurn (code : C) (slice : ℕ) (before after : Knows (OpenedView C V M) (SeatRow M) (TurnView C V M)) (old new : Work M)
      (point : Point) : Type 0 where
    pub turn : TurnView C V M
    pub led : HasLed code slice before after old new (turn ∷ [])
    pub told : point ≡ point_of turn.outcome (member_of_turn turn)

  -- A seat led, until it handed over; or the turn was elsewhere.
  abbrev pub HasLedOrNot : C → Limits → Bool → Knows (OpenedView C V M) (SeatRow M) (TurnView C V M)
      → Knows (OpenedView C V M) (SeatRow M) (TurnView C V M) → Work M → Work M → Type 0
  HasLedOrNot code limits are_more before after old new =
      ((led : List (TurnView C V M)) × HasLed code limits.slice before after old new led × LeadsUntilHandover meaning code limits.seats are_more led)
      ⊎ (IsElsewhere before × (after ≡ before) × (new ≡ old))
