-- A read past the limit gave more than the limit.
use Rattle.std.proofs.Common.{arith}
use Rattle.ame_io.proofs.ReadsLemmas.{GivesMoreThan-read}
use Rattle.ame_io.proofs.whole_read.read_all.Goals as goal

pub returns-in-Ok-read-clause-left : goal.returns-in-Ok-read-clause-left
returns-in-Ok-read-clause-left g c =
    GivesMoreThan-read _ _ _ _ _ _ c.in-Ok-read.n c.reads.invariant.taken c.in-Ok-read.ensures.bytes.0 (grind arith) (grind arith)
