-- The state that is left when a device fails.
use Rattle.std.specs.Prelude.{◌≡◌, ℕ, ℤ, true, Some, replicate}
use Rattle.ame_term.specs.Tree.{Tree}
use Rattle.ame_term.specs.Frame.{Side}
use Rattle.ame_term.specs.Context.{Focus, focus}
use Rattle.ame_term.specs.Act.{Act, act_of}
use Rattle.ame_term.specs.Maps.{at}
use Rattle.ame_term.specs.State.{State, run}
use Rattle.ame_term.specs.declared.semantics.StepKind.{StepKind}
use Rattle.ame_journal.specs.Replayed.{Replayed, is_inside}
use Rattle.ame_journal.specs.Replay.{replay}
use Rattle.ame_journal.specs.Labels.{free_labels}
use Rattle.ame_protocol.specs.Engine.Parts.{Parts, whole_journal}

-- A member that is inside can make this number of steps under `unprotected`. Its term alone determines each of them. Then it is at a call
-- of this device.
pub record ComesToCall (r : Replayed) (device : ℕ) : Type 0 where
  pub number : ℕ
  pub inside : is_inside r number ≡ true
  pub steps : ℕ
  pub reached : State
  pub made : run r.state (free_labels number (replicate steps StepKind.Local)) ≡ Some reached
  pub term : Tree
  pub member : at reached.members number ≡ Some term
  pub redex : Tree
  pub stands : focus term ≡ Focus.AtRedex Side.Unprotected redex
  pub argument : ℤ
  pub calls : act_of redex ≡ Act.Calls device argument

-- A member comes to a call of this device in the state to which a journal leads.
abbrev pub LeadsToCall : Parts → ℕ → Type 0
LeadsToCall parts device = (r : Replayed) → replay parts.program (whole_journal parts) ≡ Some r → ComesToCall r device
