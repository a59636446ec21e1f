use Rattle.ame_pool.proofs.Words.{is_busy, is_away}
use Rattle.ame_pool.proofs.StandingLemmas.{busy_away}
use Rattle.ame_pool.proofs.KeptLemmas.{at_weaker, opened}
use Rattle.ame_pool.proofs.FindLemmas.{watched_except}
use Rattle.ame_pool.proofs.pool.Pool.remove.Goals as goal

pub remove-requires : goal.remove-requires
remove-requires g c = at_weaker is_busy is_away busy_away c.args.number _ c.args.self.now c.self.view_is c.requires

pub invariant_of-self : goal.invariant_of-self
invariant_of-self g c =
    let o = opened is_busy c.args.number _ c.args.self.now c.self.view_is c.requires in
    rw c.remove.ensures.registry (watched_except c.self.invariant c.args.number o.member o.found c.unlist.ensures)
