-- A run that agrees with a store, and the state in which it ends.
use Rattle.std.specs.Prelude.{◌≡◌, ℕ, ◌+◌, List, [], ◌∷◌, ◌++◌, length, Some, None}
use Rattle.std.specs.List.{AllByRecursion}
use Rattle.ame_term.specs.Tree.{Val, Tree}
use Rattle.ame_term.specs.Maps.{at, put}
use Rattle.ame_term.specs.State.{State}
use Rattle.ame_journal.specs.Replay.{or_else}
use Rattle.ame_machine.specs.Run.Local.{LocalState}

-- Each value that was taken at a location that the run had not set is what the store has there; each other value is
-- the one that it had set; and no new location is in the store, or was set before.
pub record AgreesWith (store : List (ℕ × Val)) (p : LocalState) : Type 0 where
  pub seen : AllByRecursion (λ e. at store e.0 ≡ Some e.1) p.seen
  pub own : AllByRecursion (λ e. e.0 ≡ e.1) p.own
  pub made : AllByRecursion (λ e. (at store e.0 ≡ None) × (e.1 ≡ None)) p.made

-- members with new ones, which take the next numbers in order
abbrev pub with_members : List (ℕ × Tree) → ℕ → List Tree → List (ℕ × Tree)
with_members members next [] = members
with_members members next (body ∷ bodies) = with_members (put members next body) (next + 1) bodies

-- The state t is s after a run of member i: what it set is in the store, what it printed follows the
-- output, its new members have the next numbers, and the members but i are as they were.
pub record IsAfterRun (s : State) (i : ℕ) (p : LocalState) (t : State) : Type 0 where
  pub stored : (l : ℕ) → at t.store l ≡ or_else (at p.sets l) (at s.store l)
  pub output : t.output ≡ s.output ++ p.prints
  pub others : (k : ℕ) → (k ≡ i → ⊥) → at t.members k ≡ at (with_members s.members s.next p.spawns) k
  pub next : t.next ≡ s.next + length p.spawns
