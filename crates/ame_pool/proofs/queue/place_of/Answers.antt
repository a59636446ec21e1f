use Rattle.ame_pool.proofs.QueueLemmas.{looked}
use Rattle.ame_pool.proofs.queue.place_of.Goals as goal

pub returns-in-None-clause-some : goal.returns-in-None-clause-some
returns-in-None-clause-some c = (looked c.args.number c.args.entries.now.items c.look_through.result c.look_through.ensures).0

pub returns-in-None-clause-none : goal.returns-in-None-clause-none
returns-in-None-clause-none c = (looked c.args.number c.args.entries.now.items c.look_through.result c.look_through.ensures).1
