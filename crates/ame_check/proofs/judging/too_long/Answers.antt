use Rattle.ame_check.proofs.JudgeLemmas.{counts-none, counts-more, counts-all, is-long}
use Rattle.ame_check.proofs.judging.too_long.Goals as goal

pub loop-entry-init : goal.loop-entry-init
loop-entry-init c = counts-none c.args.entries.now

pub returns-then-entry-total : goal.returns-then-entry-total
returns-then-entry-total c =
    is-long c.args.entries.now c.loop-entry.entry-index c.loop-entry-test.true c.entry-item.result c.entry-item.is c.loop-entry.total c.loop-entry.place c.loop-entry.invariant
    c.if-entry-total.true

pub loop-entry-preserved : goal.loop-entry-preserved
loop-entry-preserved c =
    counts-more c.args.entries.now c.loop-entry.entry-index c.loop-entry-test.true c.entry-item.result c.entry-item.is c.loop-entry.total c.loop-entry.place c.loop-entry.invariant
    c.if-entry-total.false

pub returns : goal.returns
returns c = counts-all c.args.entries.now c.loop-entry.total c.loop-entry.place c.loop-entry.entry-index c.loop-entry.invariant c.loop-entry-test.false
