use Rattle.std.proofs.Common.{◌∙◌, ap, arith}
use Rattle.ame_pool.proofs.Words.{Transition, is_watching, is_away, turned_at}
use Rattle.ame_pool.proofs.MemberLemmas.{standing_is}
use Rattle.ame_pool.proofs.WakeLemmas.{stirred_clears}
use Rattle.ame_pool.proofs.KeptLemmas.{opened, at_weaker}
use Rattle.ame_pool.proofs.FindLemmas.{watched_cleared}
use Rattle.ame_pool.proofs.pool.Pool.stir.Goals as goal

pub turn-requires : goal.turn-requires
turn-requires g c =
    at_weaker (is_watching c.args.l.0) is_away (λ m h. grind (arith, standing_is m.standing, h)) c.args.number _ c.args.self.now c.self.view_is c.requires

pub invariant_of-self : goal.invariant_of-self
invariant_of-self g c =
    let o = opened (is_watching c.args.l.0) c.args.number _ c.args.self.now c.self.view_is c.requires in
    rw c.turn.ensures (watched_cleared c.self.invariant c.args.number o.member o.found c.unlist.ensures (Transition.Stir c.args.l)
    (stirred_clears c.args.l.0 o.member.standing o.passes))

pub returns : goal.returns
returns g c = c.turn.ensures ∙ ap (turned_at c.args.number (Transition.Stir c.args.l)) c.self.view_is
