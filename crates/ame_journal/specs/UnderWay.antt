-- A fragment that is under way.
use Rattle.std.specs.Prelude.{◌≡◌, ℕ, ◌+◌, ◌≤◌, ◌++◌, ℤ, List, Some, None, map}
use Rattle.ame_term.specs.State.{State, after, run}
use Rattle.ame_term.specs.declared.semantics.StepKind.{StepKind}
use Rattle.ame_term.specs.declared.semantics.Label.{Label}
use Rattle.ame_journal.specs.Labels.{AreSteps}

-- Member i became active in the state s, and n steps with these fresh locations have led to the state
-- t, and it is active still. Its prints follow those before it, and each step
-- added one member at most.
pub record UnderWay (s : State) (i n : ℕ) (fresh : List ℕ) (t : State) : Type 0 where
  pub begun : State
  pub activates : after s (Label.Activate i) ≡ Some begun
  pub kinds : List StepKind
  pub are : AreSteps kinds n fresh None
  pub made : run begun (map Label.Step kinds) ≡ Some t
  pub active : t.active ≡ Some i
  pub printed : (more : List ℤ) × (t.output ≡ s.output ++ more)
  pub few : t.next ≤ s.next + n
