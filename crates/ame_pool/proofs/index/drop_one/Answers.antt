use Rattle.std.proofs.Common.{false}
use Rattle.ame_pool.proofs.IndexLemmas.{paired}
use Rattle.ame_pool.proofs.index.drop_one.Goals as goal

pub returns : goal.returns
returns c = paired c.args.l.0 c.args.number false c.args.index.now _ c.remove.ensures.updates.0
