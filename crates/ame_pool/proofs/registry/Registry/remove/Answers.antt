use Rattle.std.proofs.Common.{sym}
use Rattle.ame_pool.proofs.Words.{is_away}
use Rattle.ame_pool.proofs.StandingLemmas.{away_unready}
use Rattle.ame_pool.proofs.CountLemmas.{counts_in}
use Rattle.ame_pool.proofs.KeptLemmas.{passes, kept_except}
use Rattle.ame_pool.proofs.registry.Registry.remove.Goals as goal

pub leave-requires : goal.leave-requires
leave-requires g c = counts_in c.self.inside.members.list c.self.inside.counts c.self.invariant.counted c.args.number c.member.result.now (sym c.member.ensures)

pub invariant_of-self : goal.invariant_of-self
invariant_of-self g c =
    let m = c.member.result.now in
    let was = away_unready m (passes is_away c.args.number _ c.args.self.now c.self.view_is c.requires m (sym c.member.ensures)) in
    rw c.remove-machine.ensures.members (kept_except c.self.invariant c.args.number m (sym c.member.ensures) was c.leave.new.self c.leave.ensures)
