use Rattle.std.proofs.Common.{◌≡◌, ◌<◌, None, refl, sym, subst, arith}
use Rattle.ame_pool.proofs.Words.{find, newcomer}
use Rattle.ame_pool.proofs.KeptLemmas.{free_place, kept_placed}
use Rattle.ame_pool.proofs.registry.Registry.add.Goals as goal

pub push-requires : goal.push-requires
push-requires g c = free_place c.self.invariant (subst (λ s. 0 < s.room) (sym c.self.view_is) c.requires.room)

pub invariant_of-self : goal.invariant_of-self
invariant_of-self g c =
    let room = subst (λ s. 0 < s.room) (sym c.self.view_is) c.requires.room in
    let fresh = subst (λ s. find c.args.number s.members ≡ None) (sym c.self.view_is) c.requires.fresh in
    rw (c.insert.ensures, c.push.ensures) (kept_placed c.self.invariant (newcomer c.args.number c.args.machine c.args.inside) fresh refl (omega arith) room)
