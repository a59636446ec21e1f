use Rattle.std.proofs.Common.{true}
use Rattle.ame_pool.proofs.IndexLemmas.{paired}
use Rattle.ame_pool.proofs.index.add.Goals as goal

pub returns-in-Ok-clause-ok : goal.returns-in-Ok-clause-ok
returns-in-Ok-clause-ok c = paired c.args.l.0 c.args.number true c.args.index.now _ c.in-Ok.ensures.updates.0
