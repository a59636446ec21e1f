use Rattle.ame_labels.proofs.LedgerLemmas.{counts-more, counts-end}
use Rattle.ame_labels.proofs.numbering.counts_of.Goals as goal

pub loop-n-preserved : goal.loop-n-preserved
loop-n-preserved c =
    counts-more c.args.labels.now c.args.tries.now c.loop-n.n c.loop-n.rest.now c.in_ok-rest.rest.now c.loop-n.ledger c.pass_tries.new.self c.pass.new.self
    c.loop-n.counts.items c.push.new.self.items _ c.loop-n.invariant c.loop-n-test.true c.in_ok-rest.ensures.notes c.in_ok-rest.ensures.later
    c.in_ok-pass.ensures c.in_ok-push.ensures.items

pub returns : goal.returns
returns c = counts-end c.args.labels.now c.args.tries.now c.loop-n.n c.loop-n.rest.now c.loop-n.ledger c.loop-n.counts.items c.loop-n-test.false c.loop-n.invariant
