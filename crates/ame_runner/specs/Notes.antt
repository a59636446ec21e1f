-- The tries of a run, and who is put aside.
use Rattle.std.specs.Prelude.{◌≡◌, ℕ, ◌⊎◌, Bool, true, List, [], ◌∷◌, length, drop, take, is_some, if◌then◌else◌, ⊤}
use Rattle.std.specs.List.{AllByRecursion, list_any}
use Rattle.ame_term.specs.Tree.{Tree}
use Rattle.ame_term.specs.declared.semantics.Label.{Label}
use Rattle.ame_weak.specs.Weak.{Weak, IsWeakRun}
use Rattle.ame_weak.specs.Tries.{AreTriesInOrder}
use Rattle.ame_weak.specs.declared.tries.Try.{Try}
use Rattle.ame_runner.specs.Labels.{label_location}
use Rattle.ame_runner.specs.Within.{HoldsWithin}

-- whether those put aside may be tried again after a label: a fragment has left or ended, or a location is new
abbrev pub lets_try_again : Label → Bool
lets_try_again Label.Leave = true
lets_try_again Label.End = true
lets_try_again label = is_some (label_location label)

-- such a label is among these
abbrev pub HasChange : List Label → Type 0
HasChange labels = list_any lets_try_again labels ≡ true

-- if both are failing tries of one member, there is such a label between them
abbrev pub AreSetApart : List Label → Try → Try → Type 0
AreSetApart labels t u =
    t.failing ≡ true → u.failing ≡ true → t.certificate.number ≡ u.certificate.number → HasChange (drop t.after (take u.after labels))

-- so it is of each two tries
abbrev pub AreSpaced : List Label → List Try → Type 0
AreSpaced labels [] = ⊤
AreSpaced labels (t ∷ tries) = AllByRecursion (AreSetApart labels t) tries × AreSpaced labels tries

-- without the last, if it was cut off
abbrev pub without_cut : List Try → List Try
without_cut [] = []
without_cut (t ∷ []) = if t.failing then t ∷ [] else []
without_cut (t ∷ u ∷ tries) = t ∷ without_cut (u ∷ tries)

-- a try holds in the state to which the labels before it lead, by steps within the bounds
abbrev pub HoldsAfter : Tree → List Label → Try → Type 0
HoldsAfter program labels t = (w : Weak) → IsWeakRun program (take t.after labels) w → HoldsWithin w t

-- a failing try's member is put aside, or there was such a label since
abbrev pub IsAsideSince : List Label → (ℕ → Bool) → Try → Type 0
IsAsideSince labels aside t = t.failing ≡ true → (aside t.certificate.number ≡ true) ⊎ HasChange (drop t.after labels)

-- the tries of the labels so far, with the members that are put aside
pub record AreKept (program : Tree) (labels : List Label) (aside : ℕ → Bool) (tries : List Try) : Type 0 where
  pub order : AreTriesInOrder 0 (length labels) tries
  pub hold : AllByRecursion (HoldsAfter program labels) tries
  pub spaced : AreSpaced labels tries
  pub put : AllByRecursion (IsAsideSince labels aside) tries
