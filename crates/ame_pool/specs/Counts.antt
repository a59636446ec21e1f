-- The counts of members that are busy or parked.
use Rattle.std.specs.Prelude.{◌≡◌, ◌+◌, ◌≤◌, ◌&&◌, Bool, cond, List, count_by, nat_lt}
use Rattle.ame_pool.specs.declared.member.Member.{Member}
use Rattle.ame_pool.specs.declared.oldest.Oldest.{Oldest}
use Rattle.ame_pool.specs.declared.counts.Counts.{Counts}
use Rattle.ame_pool.specs.Members.{is_busy, is_parked}
use Rattle.ame_pool.specs.Begin.{is_protected, is_exhausted_protected}

-- why none begins if none is ready
abbrev pub idle : Counts → Oldest
idle c = cond (nat_lt 0 c.busy) Oldest.Wait (cond (nat_lt 0 c.parked) Oldest.Parked Oldest.Empty)

module _ {M : Type 0} where
  -- busy and protected
  abbrev pub is_busy_protected : Member M → Bool
  is_busy_protected m = is_busy m && is_protected m

  -- busy and protected, and rolled back as often as it may be
  abbrev pub is_busy_exhausted : Member M → Bool
  is_busy_exhausted m = is_busy m && is_exhausted_protected m

  -- the counts with one member more
  abbrev pub counted : Member M → Counts → Counts
  counted m c = record {
    busy = c.busy + cond (is_busy m) 1 0;
    protected = c.protected + cond (is_busy_protected m) 1 0;
    exhausted = c.exhausted + cond (is_busy_exhausted m) 1 0;
    parked = c.parked + cond (is_parked m) 1 0;
  }

  -- a member may be taken from the counts
  pub record CountsIn (m : Member M) (c : Counts) : Type 0 where
    pub busy : cond (is_busy m) 1 0 ≤ c.busy
    pub protected : cond (is_busy_protected m) 1 0 ≤ c.protected
    pub exhausted : cond (is_busy_exhausted m) 1 0 ≤ c.exhausted
    pub parked : cond (is_parked m) 1 0 ≤ c.parked

  -- the counts of a list
  pub record AreCounted (ms : List (Member M)) (c : Counts) : Type 0 where
    pub busy : c.busy ≡ count_by is_busy ms
    pub protected : c.protected ≡ count_by is_busy_protected ms
    pub exhausted : c.exhausted ≡ count_by is_busy_exhausted ms
    pub parked : c.parked ≡ count_by is_parked ms

  -- the one member was counted, and the other one is counted in its place
  pub record IsRecounted (m n : Member M) (old new : Counts) : Type 0 where
    pub others : Counts
    pub left : old ≡ counted m others
    pub entered : new ≡ counted n others
