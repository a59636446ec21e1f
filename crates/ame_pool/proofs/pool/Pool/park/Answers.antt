use Rattle.std.proofs.Common.{◌∙◌, ap, arith}
use Rattle.ame_pool.proofs.Words.{Transition, is_noted, is_away, turned_at}
use Rattle.ame_pool.proofs.MemberLemmas.{standing_is}
use Rattle.ame_pool.proofs.StandingLemmas.{settled_untouched}
use Rattle.ame_pool.proofs.KeptLemmas.{opened, at_weaker}
use Rattle.ame_pool.proofs.FindLemmas.{watched_same}
use Rattle.ame_pool.proofs.pool.Pool.park.Goals as goal

pub turn-requires : goal.turn-requires
turn-requires g c = at_weaker is_noted is_away (λ m h. grind (arith, standing_is m.standing, h)) c.args.number _ c.args.self.now c.self.view_is c.requires

pub invariant_of-self : goal.invariant_of-self
invariant_of-self g c =
    let o = opened is_noted c.args.number _ c.args.self.now c.self.view_is c.requires in
    rw c.turn.ensures (watched_same c.self.invariant c.args.number o.member o.found Transition.Settle (settled_untouched o.member.standing))

pub returns : goal.returns
returns g c = c.turn.ensures ∙ ap (turned_at c.args.number Transition.Settle) c.self.view_is
