use Rattle.ame_views.proofs.CountLemmas.{shown-bounds}
use Rattle.ame_views.proofs.counts.counts_of.Goals as goal

pub returns-clause-bounds : goal.returns-clause-bounds
returns-clause-bounds g c = λ program r bounds led count. shown-bounds c.args.ended.now c.args.run.now.fragments c.args.ended.now.limits program r bounds led count
