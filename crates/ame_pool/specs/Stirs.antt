-- The effect of a write to a location on one member that watches it.
use Rattle.std.specs.Prelude.{ℕ, Bool, false, cond, [], ◌∷◌, ◌++◌, Some, None}
use Rattle.ame_pool.specs.declared.member.Member.{Member}
use Rattle.ame_pool.specs.Members.{find, altered}
use Rattle.ame_pool.specs.Waking.{has, stirred_by, is_woken_by}
use Rattle.ame_pool.specs.Index.{untouched}
use Rattle.ame_pool.specs.Roster.{Roster}

module _ {M : Type 0} where
  -- a write to the location changes it
  abbrev pub is_watching : ℕ → Member M → Bool
  is_watching l m = has l (untouched m.standing)

  -- the write wakes the member with the number
  abbrev pub is_woken_at : ℕ → ℕ → Roster M → Bool
  is_woken_at l number s = elim (find number s.members) [ None ↦ false | Some m ↦ is_woken_by l m ]

  -- the member with the number is stirred, and the youngest ready one if it is woken
  abbrev pub stirred_at : ℕ → ℕ → Roster M → Roster M
  stirred_at l number s = record s {
    members = altered number (stirred_by l) s.members;
    order = s.order ++ cond (is_woken_at l number s) (number ∷ []) [];
  }
