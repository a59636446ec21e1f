-- No value of a weak state is too high.
use Rattle.std.specs.Prelude.{◌≤◌}
use Rattle.std.specs.List.{AllByRecursion}
use Rattle.ame_term.specs.Height.{max_height, height}
use Rattle.ame_term.specs.State.{State}
use Rattle.ame_machine.specs.Sound.{HoldsLow}
use Rattle.ame_weak.specs.Weak.{Weak}

-- neither one that is stored nor one that a member holds
pub record IsLowState (s : State) : Type 0 where
  pub store : AllByRecursion (λ cell. height cell.1 ≤ max_height) s.store
  pub members : AllByRecursion (λ member. HoldsLow member.1) s.members

-- nor one in a new member that is held
pub record IsLow (w : Weak) : Type 0 where
  pub state : IsLowState w.state
  pub spawns : AllByRecursion HoldsLow w.spawns
