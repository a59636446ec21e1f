-- The invariants of a pool.
use Rattle.std.specs.Prelude.{◌≡◌, ℕ, ◌+◌, ◌≤◌, ◌<◌, ◌^◌, ◌&&◌, Bool, false, List, length, filter, All, Some, None, count_by}
use Rattle.std.specs.BTreeSet.{BTreeSet}
use Rattle.ame_pool.specs.Index.{IsIndexOf}
use Rattle.ame_pool.specs.declared.member.Member.{Member}
use Rattle.ame_pool.specs.declared.counts.Counts.{Counts}
use Rattle.ame_pool.specs.Register.{Register}
use Rattle.ame_pool.specs.Roster.{Roster}
use Rattle.ame_pool.specs.Standings.{max_rollbacks}
use Rattle.ame_pool.specs.Queues.{Queues}
use Rattle.ame_pool.specs.Counts.{AreCounted}
use Rattle.ame_pool.specs.Members.{IsRising, is_ready, find}

module _ {M : Type 0} where
  -- the order has the numbers of the ready members, each once
  abbrev pub IsOrderOf : List (Member M) → List ℕ → Type 0
  IsOrderOf ms order = (p : ℕ → Bool) → count_by p order ≡ count_by (λ m. is_ready m && p m.number) ms

  -- rising numbers, an order of the ready members, and no more rollbacks than may be
  pub record AreInOrder (ms : List (Member M)) (order : List ℕ) : Type 0 where
    pub rising : IsRising ms
    pub ordered : IsOrderOf ms order
    pub rollbacks : All (λ m. m.rollbacks ≤ max_rollbacks) ms

  -- the member with the number stands inside
  abbrev pub is_inside_at : List (Member M) → ℕ → Bool
  is_inside_at ms n = elim (find n ms) [ None ↦ false | Some m ↦ m.inside ]

  -- a sound pool, the ready ones inside in the same order, the counts, and places for its members and for those that may join
  pub record IsKept (members : Register M) (ready : Queues) (counts : Counts) : Type 0 where
    pub sound : AreInOrder members.list ready.order
    pub inside : ready.inside ≡ filter (is_inside_at members.list) ready.order
    pub counted : AreCounted members.list counts
    pub fits : length members.list + members.room ≤ ready.places
    pub small : ready.places < 2 ^ 63

  -- rising numbers, and an index that says what the watch lists say
  pub record IsWatched (s : Roster M) (index : BTreeSet (ℕ × ℕ)) : Type 0 where
    pub rising : IsRising s.members
    pub indexed : IsIndexOf s.members index
