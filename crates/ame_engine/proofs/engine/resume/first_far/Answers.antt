use Rattle.std.proofs.Common.{◌+◌, ℕ, All, ap, subst}
use Rattle.std.proofs.lemmas.List.{take_all}
use Rattle.std.proofs.lemmas.List.Elements.{All-more}
use Rattle.ame_engine.specs.Resuming.{IsNear}
use Rattle.ame_engine.proofs.FarLemmas.{is-far}
use Rattle.ame_engine.proofs.engine.resume.first_far.Goals as goal

pub returns-then-not-is_near : goal.returns-then-not-is_near
returns-then-not-is_near c =
    is-far c.args.base.now c.loop-entry.entry-index c.loop-entry.place c.entry-item.result c.loop-entry.invariant.0 c.loop-entry.invariant.1 c.loop-entry-test.true c.entry-item.is
    (c.is_near.ensures.no c.if-not-is_near.true)

pub loop-entry-preserved : goal.loop-entry-preserved
loop-entry-preserved c = (
  ap (λ (n : ℕ). n + 1) c.loop-entry.invariant.0,
  All-more IsNear c.args.base.now c.loop-entry.entry-index c.entry-item.result c.loop-entry-test.true c.loop-entry.invariant.1
      (subst IsNear c.entry-item.is (c.is_near.ensures.yes c.if-not-is_near.false)),
)

pub returns : goal.returns
returns c = subst (All IsNear) (take_all c.loop-entry.entry-index c.args.base.now c.loop-entry-test.false) c.loop-entry.invariant.1
