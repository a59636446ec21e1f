-- The pool, as contracts see it.
use Rattle.std.specs.Prelude.{ℕ, List, []}
use Rattle.ame_pool.specs.declared.member.Member.{Member}

-- the members by rising numbers, the numbers of those that are ready from the oldest on, and how many members
-- may join without memory
pub record Roster (M : Type 0) : Type 0 where
  pub members : List (Member M)
  pub order : List ℕ
  pub room : ℕ

module _ {M : Type 0} where
  abbrev pub nobody : Roster M
  nobody = record { members = []; order = []; room = 0 }
