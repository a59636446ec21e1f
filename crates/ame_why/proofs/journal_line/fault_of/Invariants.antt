-- Each word so far may stand at its place.
use Rattle.std.proofs.Common.{◌-◌, ◌≤◌, length}
use Rattle.ame_why.specs.BadLines.{ReadsTo}
use Rattle.ame_why.proofs.journal_line.fault_of.Given as goal

abbrev pub invariant-loop-word : goal.invariant-loop-word
invariant-loop-word l = (l.start ≤ length l.line) × ReadsTo l.line l.start l.part l.is_free

abbrev pub decreases-loop-word : goal.decreases-loop-word
decreases-loop-word l = length l.line - l.start
