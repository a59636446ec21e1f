-- No later word is the one that is sought.
use Rattle.std.proofs.Common.{◌≡◌, ℕ, ◌<◌, ◌≤◌, false, length}
use Rattle.ame_why.specs.Words.{is_word}
use Rattle.ame_why.proofs.words.start_of.Given as goal

abbrev pub invariant-loop-left : goal.invariant-loop-left
invariant-loop-left l = record {
  within : l.left ≤ length l.line;
  none : (k : ℕ) → l.left ≤ k → k < length l.line → is_word l.line l.sought k ≡ false;
}

abbrev pub decreases-loop-left : goal.decreases-loop-left
decreases-loop-left l = l.left
