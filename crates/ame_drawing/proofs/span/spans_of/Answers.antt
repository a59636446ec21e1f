use Rattle.std.proofs.Common.{arith}
use Rattle.std.proofs.lemmas.Grind.{common_steps}
use Rattle.ame_drawing.proofs.CountLemmas.{spans_more}
use Rattle.ame_drawing.proofs.span.spans_of.Goals as goal

pub loop-place-preserved : goal.loop-place-preserved
loop-place-preserved c = grind (arith, common_steps, spans_more c.loop-place.place c.args.picks.now)
