-- A weak run under way.
use Rattle.std.specs.Prelude.{◌≡◌, ℕ, ◌≤◌, List, [], ◌∷◌, ◌++◌, length, max, take, Some, None, is_none, if◌then◌else◌}
use Rattle.ame_term.specs.Tree.{Tree}
use Rattle.ame_term.specs.declared.semantics.Label.{Label}
use Rattle.ame_weak.specs.Weak.{Weak, weak_start, weak_after, IsWeakRun}
use Rattle.ame_weak.specs.Bounds.{IsWithinBounds, AreWithinBounds}
use Rattle.ame_runner.specs.Labels.{label_location, behind_location, location_above}

-- The program, the labels so far, the weak state to which they lead, the least location above all that they
-- made, and how many there were when nothing was active last.
pub record PlayView : Type 0 where
  pub program : Tree
  pub labels : List Label
  pub weak : Weak
  pub above : ℕ
  pub settled : ℕ

-- nothing is active after the first n labels
pub record IsSettledAfter (program : Tree) (labels : List Label) (n : ℕ) : Type 0 where
  pub few : n ≤ length labels
  pub weak : Weak
  pub leads : IsWeakRun program (take n labels) weak
  pub idle : weak.state.active ≡ None

-- the labels are legal, and lead to the weak state
pub record IsPlayedWeakly (p : PlayView) : Type 0 where
  pub leads : IsWeakRun p.program p.labels p.weak
  pub within : AreWithinBounds (weak_start p.program) p.labels
  pub above : p.above ≡ location_above p.labels
  pub settled : IsSettledAfter p.program p.labels p.settled
  pub here : p.weak.state.active ≡ None → p.settled ≡ length p.labels

-- before the first label
abbrev pub begun_play : Tree → PlayView
begun_play program = record { program = program; labels = []; weak = weak_start program; above = 0; settled = 0 }

-- one more label was made
pub record HasMadeLabel (label : Label) (old new : PlayView) : Type 0 where
  pub program : new.program ≡ old.program
  pub labels : new.labels ≡ old.labels ++ label ∷ []
  pub legal : weak_after old.weak label ≡ Some new.weak
  pub within : IsWithinBounds old.weak label
  pub above : new.above ≡ max old.above (behind_location (label_location label))
  pub settled : new.settled ≡ (if is_none new.weak.state.active then length new.labels else old.settled)
