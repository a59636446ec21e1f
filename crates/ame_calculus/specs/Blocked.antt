-- States in which each member waits for a condition.
use Rattle.std.specs.Prelude.{◌≡◌, ℕ, true, List, Some, None}
use Rattle.ame_term.specs.Tree.{Tree}
use Rattle.ame_term.specs.Maps.{at}
use Rattle.ame_term.specs.State.{State, run}
use Rattle.ame_term.specs.declared.semantics.StepKind.{StepKind}
use Rattle.ame_journal.specs.Labels.{fragment_labels}
use Rattle.ame_journal.specs.Replayed.{is_failing}

-- a member has a witness: a fragment of it comes from here by these steps to a false condition
abbrev pub IsWitness : State → ℕ → List StepKind → Type 0
IsWitness s i kinds = (t : State) × (run s (fragment_labels i kinds) ≡ Some t) × (is_failing i t ≡ true)

-- nothing is active, and each member has a witness
pub record IsBlockedState (s : State) : Type 0 where
  pub idle : s.active ≡ None
  pub each : (i : ℕ) (term : Tree) → at s.members i ≡ Some term → (kinds : List StepKind) × IsWitness s i kinds
