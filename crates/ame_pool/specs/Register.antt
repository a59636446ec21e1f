-- The members, as contracts see them.
use Rattle.std.specs.Prelude.{ℕ, List, []}
use Rattle.ame_pool.specs.declared.member.Member.{Member}

-- the members by rising numbers, and how many may join without memory
pub record Register (M : Type 0) : Type 0 where
  pub list : List (Member M)
  pub room : ℕ

module _ {M : Type 0} where
  -- no members, and no room
  abbrev pub vacant : Register M
  vacant = record { list = []; room = 0 }
