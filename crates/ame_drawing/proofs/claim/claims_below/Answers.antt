use Rattle.std.proofs.Common.{arith}
use Rattle.std.proofs.lemmas.Grind.{common_steps}
use Rattle.ame_drawing.proofs.CountLemmas.{claims_more}
use Rattle.ame_drawing.proofs.claim.claims_below.Goals as goal

pub loop-seat-preserved : goal.loop-seat-preserved
loop-seat-preserved c = grind (arith, common_steps, claims_more c.loop-seat.seat c.args.entries.now)
