-- The members that have a number after an edit of a list of members.
use Rattle.std.specs.Prelude.{◌≡◌, ◌≢◌, ℕ, List, Option}
use Rattle.ame_pool.specs.declared.member.Member.{Member}
use Rattle.ame_pool.specs.Members.{IsRising, find}

module _ {M : Type 0} where
  -- the number finds what f makes of the member that it found, each other number finds what it found, and numbers still rise
  pub record IsFoundAfter (n : ℕ) (f : Option (Member M) → Option (Member M)) (old new : List (Member M)) : Type 0 where
    pub here : find n new ≡ f (find n old)
    pub others : (k : ℕ) → k ≢ n → find k new ≡ find k old
    pub rising : IsRising old → IsRising new
