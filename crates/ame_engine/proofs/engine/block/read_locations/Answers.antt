use Rattle.ame_engine.proofs.BlockLemmas.{locations-more}
use Rattle.ame_engine.proofs.engine.block.read_locations.Goals as goal

pub loop-read-preserved : goal.loop-read-preserved
loop-read-preserved c =
    locations-more c.args.reads.now c.loop-read.read-index _ _ _ c.loop-read-test.true c.in_ok-push.ensures.items c.loop-read.invariant
