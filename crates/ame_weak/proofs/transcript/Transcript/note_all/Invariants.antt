use Rattle.std.proofs.Common.{length}
use Rattle.ame_weak.proofs.TranscriptLemmas.{IsNotedSoFar}
use Rattle.ame_weak.proofs.transcript.Transcript.note_all.Given as goal

abbrev pub invariant-loop-t : goal.invariant-loop-t
invariant-loop-t l = IsNotedSoFar l.n l.tries l.rest l.fn.self l.self

abbrev pub decreases-loop-t : goal.decreases-loop-t
decreases-loop-t l = length l.rest
