use Rattle.ame_engine.proofs.CrewLemmas.{woken-more, woken-end}
use Rattle.ame_engine.proofs.engine.commit.members.wake_all.Goals as goal

pub loop-l-preserved : goal.loop-l-preserved
loop-l-preserved g c = woken-more c.args.locs.now c.loop-l.l-index (record { 0 = 0 }) _ _ _ c.loop-l-test.true c.wake.ensures c.loop-l.invariant

pub returns : goal.returns
returns g c = woken-end c.args.locs.now c.loop-l.l-index _ _ c.loop-l-test.false c.loop-l.invariant
