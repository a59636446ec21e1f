use Rattle.std.proofs.Common.{sym, ap, ◌∙◌, arith}
use Rattle.ame_drawing.specs.Stamps.{made_by_entry}
use Rattle.ame_drawing.proofs.StampLemmas.{differ}
use Rattle.ame_drawing.proofs.stamp.are_of.Goals as goal

pub returns-then-not-is_of : goal.returns-then-not-is_of
returns-then-not-is_of c = (
  λ h. absurd (cc),
  λ same. absurd
      (differ c.args.stamps.now c.args.entries.now c.loop-index.index _ c.index-entries-index.result c.loop-index-test.true (omega (arith, c.loop-index-test.true, c.if-stamps-entries.false))
      (λ here. let t = c.is_of.ensures.1 (here ∙ sym (ap made_by_entry c.index-entries-index.is)) in absurd (cc)) same),
)
