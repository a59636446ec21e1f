-- States whose entries stand in order.
use Rattle.std.specs.Prelude.{◌≡◌, ℕ, ◌<◌, true, List, Some, is_some}
use Rattle.std.specs.List.{AllByRecursion}
use Rattle.std.specs.List.Sorted.{IsStrictlySortedBy}
use Rattle.std.specs.Map.{keys_of}
use Rattle.std.specs.Ordering.{nat_cmp}
use Rattle.ame_term.specs.Maps.{at}
use Rattle.ame_term.specs.State.{State}

-- the numbers of a finite map's entries rise
abbrev pub NumbersRise : {X : Type 0} → List (ℕ × X) → Type 0
NumbersRise entries = IsStrictlySortedBy nat_cmp (keys_of entries)

-- Members and store entries rise by number, each member's number is below that of the next new one, and
-- the active member is one of the members.
pub record IsOrderly (s : State) : Type 0 where
  pub members_rise : NumbersRise s.members
  pub store_rises : NumbersRise s.store
  pub members_below : AllByRecursion (λ i. i < s.next) (keys_of s.members)
  pub active_there : (i : ℕ) → s.active ≡ Some i → is_some (at s.members i) ≡ true
