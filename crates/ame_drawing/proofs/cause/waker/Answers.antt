use Rattle.std.proofs.Common.{arith}
use Rattle.std.proofs.lemmas.Grind.{common_steps}
use Rattle.ame_drawing.proofs.CountLemmas.{waker_more}
use Rattle.ame_drawing.proofs.cause.waker.Goals as goal

pub loop-place-preserved : goal.loop-place-preserved
loop-place-preserved c = grind (arith, common_steps, waker_more c.loop-place.place c.args.member c.args.index c.args.spans.now c.args.earlier.now)
