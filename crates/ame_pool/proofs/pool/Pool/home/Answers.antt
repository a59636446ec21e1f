use Rattle.std.proofs.Common.{◌∙◌, true, refl, arith}
use Rattle.ame_pool.proofs.Words.{Transition, is_running, is_away}
use Rattle.ame_pool.proofs.MemberLemmas.{standing_is}
use Rattle.ame_pool.proofs.KeptLemmas.{opened, at_weaker, turned_pool}
use Rattle.ame_pool.proofs.FindLemmas.{watched_same}
use Rattle.ame_pool.proofs.pool.Pool.home.Goals as goal

pub turn-requires : goal.turn-requires
turn-requires g c = at_weaker is_running is_away (λ m h. grind (arith, standing_is m.standing, h)) c.args.number _ c.args.self.now c.self.view_is c.requires

pub invariant_of-self : goal.invariant_of-self
invariant_of-self g c =
    let o = opened is_running c.args.number _ c.args.self.now c.self.view_is c.requires in
    rw c.turn.ensures (watched_same c.self.invariant c.args.number o.member o.found
    (Transition.Home c.args.rolled_back) (grind (arith, standing_is o.member.standing, o.passes)))

pub returns : goal.returns
returns g c =
    let o = opened is_running c.args.number _ c.args.self.now c.self.view_is c.requires in
    c.turn.ensures ∙ turned_pool c.args.number (Transition.Home c.args.rolled_back) _ c.args.self.now c.self.view_is o.member o.found true refl
