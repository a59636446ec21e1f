use Rattle.std.proofs.Common.{◌≡◌, arith}
use Rattle.ame_labels.specs.Front.{shown_from}
use Rattle.ame_labels.proofs.FrontLemmas.{shown-more, shown-ends, shown-all}
use Rattle.ame_labels.proofs.steps.shown_count.Goals as goal

pub loop-index-preserved : goal.loop-index-preserved
loop-index-preserved c =
    shown-more c.loop-index.left c.loop-index.index c.args.entries.now c.index-entries-index.result c.loop-index-test.true c.index-entries-index.is c.if-entry-left.false _
    c.loop-index.invariant

pub returns-then-entry-left-clause-value : goal.returns-then-entry-left-clause-value
returns-then-entry-left-clause-value c =
    shown-ends c.loop-index.left c.loop-index.index c.args.entries.now c.index-entries-index.result c.loop-index-test.true c.index-entries-index.is c.if-entry-left.true _
    c.loop-index.invariant

pub returns-clause-value : goal.returns-clause-value
returns-clause-value c =
    let all : c.loop-index.index ≡ shown_from 10000 c.args.entries.now =
    shown-all c.loop-index.left c.loop-index.index c.args.entries.now _ c.loop-index-test.false c.loop-index.invariant in
    omega (arith, all)
