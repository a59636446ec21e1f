-- The standings of a member by itself.
use Rattle.std.specs.Prelude.{ℕ, ◌+◌, Bool, false, cond, Some, None, min}
use Rattle.ame_pool.specs.declared.member.MemberStanding.{MemberStanding}

-- how often a member is rolled back before it begins alone
abbrev pub max_rollbacks : ℕ
max_rollbacks = 8

-- one rollback more, up to the limit, or none
abbrev pub rolled : Bool → ℕ → ℕ
rolled rolled_back rollbacks = cond rolled_back (min max_rollbacks (rollbacks + 1)) rollbacks

-- what a watch becomes once its member is at rest: a list to park on, or nothing if it was touched
abbrev pub settled : MemberStanding → MemberStanding
settled MemberStanding.Ready = MemberStanding.Ready
settled (MemberStanding.Busy None) = MemberStanding.Busy None
settled (MemberStanding.Busy (Some w)) = cond w.touched MemberStanding.Ready (MemberStanding.Parked w.locs)
settled (MemberStanding.Parked locs) = MemberStanding.Parked locs

-- a busy member's watch was touched
abbrev pub is_touched : MemberStanding → Bool
is_touched MemberStanding.Ready = false
is_touched (MemberStanding.Busy None) = false
is_touched (MemberStanding.Busy (Some w)) = w.touched
is_touched (MemberStanding.Parked locs) = false
