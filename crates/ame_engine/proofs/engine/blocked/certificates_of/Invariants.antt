-- The certificates of the numbers so far.
use Rattle.std.proofs.Common.{◌≡◌, ◌++◌, take}
use Rattle.ame_protocol.specs.Event.Causes.{certificates_of}
use Rattle.ame_engine.proofs.engine.blocked.certificates_of.Given as goal

abbrev pub invariant-loop-number : goal.invariant-loop-number
invariant-loop-number l = l.certificates.items ≡ certificates_of (l.base ++ l.entries) (take l.number-index l.numbers)
