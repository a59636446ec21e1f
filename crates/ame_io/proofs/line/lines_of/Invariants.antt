-- The lines so far.
use Rattle.std.proofs.Common.{◌≡◌, take}
use Rattle.ame_io.specs.Lines.{lines}
use Rattle.ame_io.proofs.line.lines_of.Given as goal

abbrev pub invariant-loop-n : goal.invariant-loop-n
invariant-loop-n l = l.text.items ≡ lines (take l.n-index l.output)
