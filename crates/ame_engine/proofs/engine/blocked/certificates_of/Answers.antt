use Rattle.std.proofs.Common.{◌++◌}
use Rattle.ame_engine.proofs.BlockedLemmas.{certificates-more}
use Rattle.ame_engine.proofs.engine.blocked.certificates_of.Goals as goal

pub loop-number-preserved : goal.loop-number-preserved
loop-number-preserved c =
    certificates-more (c.args.base.now ++ c.args.entries.now) c.args.numbers.now c.loop-number.number-index 0 c.loop-number-test.true
    c.loop-number.certificates.items c.loop-number.invariant _ c.last_note_of-found.ensures c.add.new.certificates.items c.in_ok-add.ensures
