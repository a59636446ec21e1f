use Rattle.ame_weak.proofs.TranscriptLemmas.{stands-entered}
use Rattle.ame_weak.proofs.transcript.Transcript.leave.Goals as goal

pub returns : goal.returns
returns c = λ p stands.
    let x = c.in_ok-ran.ensures p stands in
    (stands-entered p c.ran.new.self c.insert.new.self x.0 c.in_ok-insert.ensures.updates.0, x.1)
