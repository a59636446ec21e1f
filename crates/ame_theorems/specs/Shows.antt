-- Committed work of a runtime, as it is shown.
use Rattle.std.specs.Prelude.{◌≡◌, ℕ}
use Rattle.ame_pool.specs.Calls.{machine_of}
use Rattle.ame_pool.specs.Keeps.{is_inside_at}
use Rattle.ame_protocol.specs.Engine.Parts.{Parts, heap_in}

-- Two states show the same: what was printed; the number of the next new member; each member's term, and whether it is in
-- unprotected code; and the committed value of each location.
pub record ShowsTheSame (old new : Parts) : Type 0 where
  pub output : new.output ≡ old.output
  pub next : new.next ≡ old.next
  pub terms : (i : ℕ) → machine_of i new.pool ≡ machine_of i old.pool
  pub inside : (i : ℕ) → is_inside_at new.pool.members i ≡ is_inside_at old.pool.members i
  pub committed : (l : ℕ) → (heap_in new).committed l ≡ (heap_in old).committed l
