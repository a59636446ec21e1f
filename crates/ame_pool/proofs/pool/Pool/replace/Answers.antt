use Rattle.std.proofs.Common.{◌∙◌, true, refl}
use Rattle.ame_pool.proofs.Words.{Transition, is_busy, is_away}
use Rattle.ame_pool.proofs.StandingLemmas.{busy_away}
use Rattle.ame_pool.proofs.KeptLemmas.{at_weaker, opened, turned_pool}
use Rattle.ame_pool.proofs.FindLemmas.{watched_cleared}
use Rattle.ame_pool.proofs.pool.Pool.replace.Goals as goal

pub turn-requires : goal.turn-requires
turn-requires g c = at_weaker is_busy is_away busy_away c.args.number _ c.args.self.now c.self.view_is c.requires

pub invariant_of-self : goal.invariant_of-self
invariant_of-self g c =
    let o = opened is_busy c.args.number _ c.args.self.now c.self.view_is c.requires in
    rw c.turn.ensures (watched_cleared c.self.invariant c.args.number o.member o.found c.unlist.ensures (Transition.Renew c.args.machine c.args.inside) refl)

pub returns : goal.returns
returns g c =
    let o = opened is_busy c.args.number _ c.args.self.now c.self.view_is c.requires in
    c.turn.ensures ∙ turned_pool c.args.number (Transition.Renew c.args.machine c.args.inside) _ c.args.self.now c.self.view_is o.member o.found true refl
