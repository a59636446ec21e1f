-- Fragments whose steps are within the bounds.
use Rattle.std.specs.Prelude.{◌≡◌, ℕ, ◌⊎◌, List, ◌++◌, length, Some}
use Rattle.std.specs.List.{AllByRecursion}
use Rattle.ame_term.specs.Tree.{Tree}
use Rattle.ame_term.specs.declared.semantics.StepKind.{StepKind}
use Rattle.ame_term.specs.declared.semantics.Label.{Label}
use Rattle.ame_journal.specs.declared.entry.Entry.{Entry}
use Rattle.ame_journal.specs.Labels.{made_by, fragment_labels}
use Rattle.ame_weak.specs.Weak.{Weak, IsWeakRun, weak_run}
use Rattle.ame_weak.specs.Bounds.{AreWithinBounds}
use Rattle.ame_weak.specs.Tries.{HoldsIn}
use Rattle.ame_weak.specs.declared.tries.Try.{Try}

-- from a weak state, a fragment of member i can make n steps with these locations, every step within the bounds
pub record AreMadeWithin (w : Weak) (i n : ℕ) (fresh : List ℕ) : Type 0 where
  pub kinds : List StepKind
  pub reached : Weak
  pub leads : weak_run w (fragment_labels i kinds) ≡ Some reached
  pub within : AreWithinBounds w (fragment_labels i kinds)
  pub steps : n ≡ length kinds
  pub made : fresh ≡ made_by kinds

-- so it is for a try
abbrev pub IsTriedWithin : Weak → Try → Type 0
IsTriedWithin w t = AreMadeWithin w t.certificate.number t.certificate.steps t.certificate.fresh

-- and it holds there
abbrev pub HoldsWithin : Weak → Try → Type 0
HoldsWithin w t = HoldsIn w t × IsTriedWithin w t

-- in the state to which the labels before it lead
abbrev pub IsTriedWithinAt : Tree → List Label → Try → Type 0
IsTriedWithinAt program labels t =
    (front rest : List Label) (w : Weak) → labels ≡ front ++ rest → length front ≡ t.after → IsWeakRun program front w → IsTriedWithin w t

abbrev pub AreTriedWithin : Tree → List Label → List Try → Type 0
AreTriedWithin program labels tries = AllByRecursion (IsTriedWithinAt program labels) tries

-- the member of a note comes to its form at once, or by steps within the bounds
abbrev pub IsReachedWithin : Weak → Entry → Type 0
IsReachedWithin w entry = (entry.steps ≡ 0) ⊎ AreMadeWithin w entry.number entry.steps entry.fresh
