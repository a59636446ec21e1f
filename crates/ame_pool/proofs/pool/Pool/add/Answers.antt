use Rattle.std.proofs.Common.{◌≡◌, None, refl, sym, subst}
use Rattle.ame_pool.proofs.Words.{find, newcomer}
use Rattle.ame_pool.proofs.FindLemmas.{watched_placed}
use Rattle.ame_pool.proofs.pool.Pool.add.Goals as goal

pub invariant_of-self : goal.invariant_of-self
invariant_of-self g c =
    rw c.add.ensures (watched_placed c.self.invariant (newcomer c.args.number c.args.machine c.args.inside)
    (subst (λ s. find c.args.number s.members ≡ None) (sym c.self.view_is) c.requires.fresh) refl)
