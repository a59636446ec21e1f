use Rattle.std.proofs.Common.{◌≡◌, drop}
use Rattle.ame_why.specs.Words.{after_marks}
use Rattle.ame_why.proofs.words.place_after.Given as goal

abbrev pub invariant-loop-place : goal.invariant-loop-place
invariant-loop-place l = after_marks l.mark l.count l.text ≡ after_marks l.mark l.left (drop l.place l.text)
