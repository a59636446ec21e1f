use Rattle.std.proofs.Common.{◌∙◌, ap, arith}
use Rattle.ame_pool.proofs.Words.{is_ready, held}
use Rattle.ame_pool.proofs.MemberLemmas.{standing_is}
use Rattle.ame_pool.proofs.KeptLemmas.{opened}
use Rattle.ame_pool.proofs.FindLemmas.{watched_held}
use Rattle.ame_pool.proofs.pool.Pool.begin.Goals as goal

pub invariant_of-self : goal.invariant_of-self
invariant_of-self g c =
    let o = opened is_ready c.args.number _ c.args.self.now c.self.view_is c.requires in
    rw c.begin.ensures (watched_held c.self.invariant c.args.number o.member o.found (grind (arith, standing_is o.member.standing, o.passes)))

pub returns : goal.returns
returns g c = c.begin.ensures ∙ ap (held c.args.number) c.self.view_is
