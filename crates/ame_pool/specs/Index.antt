-- The index of members that watch locations.
use Rattle.std.specs.Prelude.{◌≡◌, ◌≢◌, ℕ, ◌==◌, Bool, true, false, cond, List, [], Option, Some, None}
use Rattle.std.specs.BTreeSet.{BTreeSet}
use Rattle.std.specs.BTreeSet.{contains}
use Rattle.std.specs.List.{list_any}
use Rattle.ame_term.specs.declared.types.Loc.{Loc}
use Rattle.ame_pool.specs.declared.member.Member.{Member}
use Rattle.ame_pool.specs.declared.member.MemberStanding.{MemberStanding}
use Rattle.ame_pool.specs.Members.{find}
use Rattle.ame_pool.specs.Waking.{has}
use Rattle.std.specs.declared.cmp.Ordering.{Ordering}
use Rattle.std.specs.Ordering.{nat_cmp, ordering_then}

-- pairs of a location and a number, by location and then by number
abbrev pub pair_cmp : ℕ × ℕ → ℕ × ℕ → Ordering
pair_cmp x y = ordering_then (nat_cmp x.0 y.0) (nat_cmp x.1 y.1)

-- the index says that the member with this number watches the location
abbrev pub lists : BTreeSet (ℕ × ℕ) → ℕ → ℕ → Bool
lists index l n = contains pair_cmp index (l, n)

-- the location is among these
abbrev pub among : ℕ → List Loc → Bool
among k locs = list_any (λ l. l.0 == k) locs

-- the index lists the number at the locations that pass, and each other number as it did
pub record IsListedAfter (number : ℕ) (test : ℕ → Bool) (old new : BTreeSet (ℕ × ℕ)) : Type 0 where
  pub here : (k : ℕ) → lists new k number ≡ test k
  pub others : (k n : ℕ) → n ≢ number → lists new k n ≡ lists old k n

-- the index has what it had, and for the number perhaps some of these locations too
pub record IsBetween (number : ℕ) (locs : List Loc) (old new : BTreeSet (ℕ × ℕ)) : Type 0 where
  pub had : (k : ℕ) → lists old k number ≡ true → lists new k number ≡ true
  pub elsewhere : (k : ℕ) → among k locs ≡ false → lists new k number ≡ lists old k number
  pub others : (k n : ℕ) → n ≢ number → lists new k n ≡ lists old k n

-- the locations whose write changes a standing: a list that isn't touched yet
abbrev pub untouched : MemberStanding → List ℕ
untouched MemberStanding.Ready = []
untouched (MemberStanding.Busy None) = []
untouched (MemberStanding.Busy (Some w)) = cond w.touched [] w.locs
untouched (MemberStanding.Parked locs) = locs

module _ {M : Type 0} where
  -- a write to the location changes the member, if there is one
  abbrev pub waits_for : ℕ → Option (Member M) → Bool
  waits_for k None = false
  waits_for k (Some m) = has k (untouched m.standing)

  -- the index and the watch lists say the same
  abbrev pub IsIndexOf : List (Member M) → BTreeSet (ℕ × ℕ) → Type 0
  IsIndexOf ms index = (k n : ℕ) → lists index k n ≡ waits_for k (find n ms)
