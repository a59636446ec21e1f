-- The changes that a write to a location makes.
use Rattle.std.specs.Prelude.{ℕ, ◌==◌, Bool, true, false, cond, List, map, filter, Some, None}
use Rattle.std.specs.List.{list_any}
use Rattle.ame_pool.specs.declared.member.Member.{Member}
use Rattle.ame_pool.specs.declared.member.MemberStanding.{MemberStanding}
use Rattle.ame_pool.specs.declared.member.Watch.{Watch}

-- the watch list has the location
abbrev pub has : ℕ → List ℕ → Bool
has l locs = list_any (λ k. k == l) locs

-- a watch that the location touches is touched
abbrev pub touched_by : ℕ → Watch → Watch
touched_by l w = cond (has l w.locs) (record w { touched = true }) w

-- what a write to the location makes of a standing
abbrev pub stirred : ℕ → MemberStanding → MemberStanding
stirred l MemberStanding.Ready = MemberStanding.Ready
stirred l (MemberStanding.Busy None) = MemberStanding.Busy None
stirred l (MemberStanding.Busy (Some w)) = MemberStanding.Busy (Some (touched_by l w))
stirred l (MemberStanding.Parked locs) = cond (has l locs) MemberStanding.Ready (MemberStanding.Parked locs)

-- a parked member waits for the location
abbrev pub is_waiting_for : ℕ → MemberStanding → Bool
is_waiting_for l MemberStanding.Ready = false
is_waiting_for l (MemberStanding.Busy w) = false
is_waiting_for l (MemberStanding.Parked locs) = has l locs

module _ {M : Type 0} where
  abbrev pub stirred_by : ℕ → Member M → Member M
  stirred_by l m = record m { standing = stirred l m.standing }

  abbrev pub is_woken_by : ℕ → Member M → Bool
  is_woken_by l m = is_waiting_for l m.standing

  -- the numbers of the members that the location wakes, in order
  abbrev pub woken_by : ℕ → List (Member M) → List ℕ
  woken_by l ms = map (λ m. m.number) (filter (is_woken_by l) ms)
