-- Certificates that a member's condition is false.
use Rattle.std.specs.Prelude.{◌≡◌, ℕ, List, true, Some, None}
use Rattle.ame_term.specs.State.{State, run}
use Rattle.ame_term.specs.declared.semantics.StepKind.{StepKind}
use Rattle.ame_journal.specs.declared.entry.Entry.{Entry}
use Rattle.ame_journal.specs.Replayed.{is_failing}
use Rattle.ame_journal.specs.Labels.{AreSteps, fragment_labels}
use Rattle.ame_protocol.specs.Waits.Waiting.{last_stuck}

-- In a state a member can become active and make this number of steps, with exactly these new locations. Then it is at a condition that is
-- false.
pub record IsCertificate (s : State) (number steps : ℕ) (fresh : List ℕ) : Type 0 where
  pub kinds : List StepKind
  pub are : AreSteps kinds steps fresh None
  pub reached : State
  pub made : run s (fragment_labels number kinds) ≡ Some reached
  pub active : reached.active ≡ Some number
  pub fails : is_failing number reached ≡ true

-- a member's last note is a certificate
pub record HasCertificate (journal : List Entry) (s : State) (number : ℕ) : Type 0 where
  pub note : Entry
  pub last : last_stuck number journal ≡ Some note
  pub holds : IsCertificate s number note.steps note.fresh
