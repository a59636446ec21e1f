-- The effect of picks on a shell.
use Rattle.std.specs.Prelude.{◌≡◌, ◌⊎◌, List, [], ◌∷◌, length, Option, Some, None}
use Rattle.ame_machine.specs.MachineView.{MachineView}
use Rattle.ame_protocol.specs.Engine.Parts.{task_at, member_of}
use Rattle.ame_engine.specs.AtWork.{IsOnSeat}
use Rattle.ame_engine.specs.Seen.{parts_of}
use Rattle.ame_shell.specs.declared.work.Outcome.{Outcome}
use Rattle.ame_shell.specs.Shell.{ShellView}
use Rattle.ame_shell.specs.Turned.{HasTurned, member_told}
use Rattle.ame_sim.specs.declared.made.Made.{Made}
use Rattle.ame_sim.specs.Places.{place_wanted, place_told}
use Rattle.ame_sim.specs.Prepared.{IsPreparedHand}
use Rattle.ame_machine.specs.Meaning.{Meaning}

module _ {C V M : Type 0} (meaning : Meaning C V M) where
  -- The seat that was picked had its turn, with this outcome. Its machine, if it has one, is in the state of the seat's run, and was
  -- prepared, unless memory ran out or a stop was kept. The member is the one that the seat had at work before, or otherwise the one
  -- that it has then. The place is that of the outcome.
  pub record HasPlayed (made : Made) (old new : ShellView C V M) : Type 0 where
    pub hand : Option MachineView
    pub stands : (s : MachineView) → hand ≡ Some s → IsOnSeat (parts_of meaning old.core) made.seat s
    pub prepared : old.core.stop ≡ None → (made.outcome ≡ Outcome.Lacked) ⊎ IsPreparedHand (parts_of meaning old.core) made.seat hand
    pub turned : HasTurned meaning made.seat hand old new made.outcome
    pub member : made.member ≡ member_told (member_of (task_at old.core.tasks made.seat)) (member_of (task_at new.core.tasks made.seat))
    pub place : made.place ≡ place_told made.outcome (place_wanted (length old.core.memory.cells) hand)

  -- picks, one after the other, while no stop is kept
  abbrev pub Plays : List Made → ShellView C V M → ShellView C V M → Type 0
  Plays [] old new = new ≡ old
  Plays (made ∷ mades) old new = (mid : ShellView C V M) × (old.core.stop ≡ None) × HasPlayed made old mid × Plays mades mid new
