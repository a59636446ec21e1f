-- The new members so far have the next numbers.
use Rattle.std.proofs.Common.{◌≡◌, ℕ, ◌≤◌, Bool, false, List, length}
use Rattle.ame_term.specs.Tree.{Tree}
use Rattle.ame_check.specs.Shows.{ShowsMembers}
use Rattle.ame_check.proofs.MergeLemmas.{Adopting}
use Rattle.ame_check.proofs.replay.adopt.Given as goal

abbrev pub invariant-loop-member : goal.invariant-loop-member
invariant-loop-member g l = (before : List (ℕ × Tree)) (inside : ℕ → Bool) → g.M.Runner.meaning.is_machine l._code l.initial.machine
    → ShowsMembers g.M.Runner.meaning l._code inside l.initial.members.entries before → ((k : ℕ) → l.fn.next ≤ k → inside k ≡ false)
    → Adopting g.M.Runner.meaning l._code inside before l.fn.next (g.M.Runner.meaning.stage l._code l.initial.machine) l.members.entries l.number l.machine

abbrev pub decreases-loop-member : goal.decreases-loop-member
decreases-loop-member g l = length (g.M.Runner.meaning.stage l._code l.machine).spawns
