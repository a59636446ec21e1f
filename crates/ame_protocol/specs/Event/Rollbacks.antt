-- Bounds on the rollbacks of members.
use Rattle.std.specs.Prelude.{◌≤◌, All}
use Rattle.ame_pool.specs.Members.{IsRising}
use Rattle.ame_pool.specs.Standings.{max_rollbacks}
use Rattle.ame_pool.specs.Roster.{Roster}

module _ {M : Type 0} where
  -- Numbers rise, and no member was rolled back more often than it may be.
  pub record IsGoodPool (pool : Roster M) : Type 0 where
    pub rising : IsRising pool.members
    pub few : All (λ m. m.rollbacks ≤ max_rollbacks) pool.members
