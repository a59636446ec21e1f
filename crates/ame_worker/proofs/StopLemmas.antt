-- A stop that is kept stays kept.
use Rattle.std.proofs.Common.{◌≡◌, ℕ, Bool, true, false, List, Option, refl, sym, ap, ◌∙◌, subst}
use Rattle.std.specs.Prelude.{is_some, IsSome}
use Rattle.ame_device.specs.declared.told.Told.{Told}
use Rattle.ame_machine.specs.MachineView.{MachineView}
use Rattle.ame_machine.specs.Meaning.{Meaning}
use Rattle.ame_protocol.specs.declared.stop.Stop.{Stop}
use Rattle.ame_engine.specs.Core.{Core}
use Rattle.ame_engine.specs.Stops.{stopped_by}
use Rattle.ame_shell.specs.declared.work.Outcome.{Outcome}
use Rattle.ame_shell.specs.Shell.{ShellView}
use Rattle.ame_shell.specs.Turned.{HasFlushed, is_to_flush, HasTurned}
use Rattle.ame_shell.proofs.OutcomeRows.{HasRow, rowed}
use Rattle.ame_shell.proofs.OutcomeLemmas.{outcome-silent}
use Rattle.ame_shell.proofs.StopLemmas.{GoesQuietly}

quiet-kept : (old new : Option Stop) → GoesQuietly old new → IsSome old → IsSome new
quiet-kept old new (GoesQuietly.stays same) kept = ap is_some same ∙ kept
quiet-kept old new (GoesQuietly.stops why quiet none is) kept = ap is_some is

module _ {C V M : Type 0} (meaning : Meaning C V M) where
  -- in an event of a seat
  outcome-stops : (seat : ℕ) (hand : Option MachineView) (old new : Core C V M) (before after : List Told) (outcome : Outcome)
      → HasRow meaning seat hand old new before after outcome → IsSome old.stop → IsSome new.stop
  outcome-stops seat hand old new before after Outcome.Ended h = λ kept. ap is_some h.event.4.stop ∙ kept
  outcome-stops seat hand old new before after Outcome.Left h = λ kept. ap is_some h.event.4.stop ∙ kept
  outcome-stops seat hand old new before after Outcome.CameHome h = λ kept. ap is_some h.event.4.event.stop ∙ kept
  outcome-stops seat hand old new before after (Outcome.DeviceFailed device) h = λ kept. ap is_some h.event.4.event.stop
  outcome-stops seat hand old new before after outcome h =
      quiet-kept old.stop new.stop (outcome-silent meaning seat old new hand before after outcome refl refl h.event).recorded.stop

  module _ (seat : ℕ) (hand : Option MachineView) (old new : ShellView C V M) (outcome : Outcome) (turned : HasTurned meaning seat hand old new outcome) where
    -- what is so after the event, with one more stop too, is so after the turn
    pub turn-on : (P : Core C V M → Type 0) → ((core : Core C V M) → P core → P (stopped_by Stop.WriteFault core)) → P turned.core → P new.core
    turn-on P stops h = by (is_to_flush outcome) refl
      where
        flushed : (mid : ShellView C V M) → P mid.core → HasFlushed mid new → P new.core
        flushed mid h (HasFlushed.sends appended stays same sent) = subst P (sym same) h
        flushed mid h (HasFlushed.fails gone first short risen same sent) = subst P (sym same) (stops mid.core h)

        by : (b : Bool) → is_to_flush outcome ≡ b → P new.core
        by true e = flushed (record { core = turned.core; sent = old.sent; ends = record old.ends { told = new.ends.told } }) h (turned.flushes e)
        by false e = subst P (sym (ap (λ (x : ShellView C V M). x.core) (turned.stays e))) h

    pub turn-stops : IsSome old.core.stop → IsSome new.core.stop
    turn-stops kept =
        turn-on (λ (core : Core C V M). IsSome core.stop) (λ core is. refl)
        (outcome-stops seat hand old.core turned.core old.ends.told new.ends.told outcome
        (rowed meaning seat hand old.core turned.core old.ends.told new.ends.told outcome turned.done) kept)
