use Rattle.std.proofs.Common.{◌∙◌}
use Rattle.ame_io.proofs.LinesLemmas.{lines-more}
use Rattle.ame_io.proofs.line.lines_of.Goals as goal

pub loop-n-preserved : goal.loop-n-preserved
loop-n-preserved c =
    lines-more c.args.output.now c.loop-n.n-index _ _ _ _ c.loop-n-test.true (c.as_bytes.ensures.value ∙ c.as_str.ensures.value ∙ c.integer_line.ensures)
    c.in_ok-extend_from_slice.ensures.items c.loop-n.invariant
