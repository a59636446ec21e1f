use Rattle.std.proofs.Common.{◌≡◌, ◌<◌, None, refl, sym, subst, arith}
use Rattle.ame_pool.proofs.Words.{find}
use Rattle.ame_pool.proofs.EntryLemmas.{rising_filed}
use Rattle.ame_pool.proofs.SlotLemmas.{slot_filled}
use Rattle.ame_pool.proofs.members.Members.insert.Goals as goal

pub invariant_of-self : goal.invariant_of-self
invariant_of-self g c =
    let room = subst (λ s. 0 < s.room) (sym c.self.view_is) c.requires.room in
    record {
      rising = rw c.enter.ensures.items (rising_filed c.self.inside.numbers.items c.self.invariant.rising (record { number = c.args.member.number; key = c.insert_reserved-key.result }));
      slots_fit = omega (arith, room, c.self.invariant.slots_fit, c.insert_reserved-key.ensures.len, c.insert_reserved-key.ensures.capacity);
      numbers_fit = omega (arith, room, c.self.invariant.numbers_fit, c.enter.ensures.len, c.enter.ensures.capacity);
    }

pub returns : goal.returns
returns g c =
    let fresh = subst (λ s. find c.args.member.number s.list ≡ None) (sym c.self.view_is) c.requires.fresh in
    let filled = slot_filled c.self.inside.slots c.insert_reserved-key.new.self c.self.inside.numbers.items c.self.invariant.rising c.args.member
    c.insert_reserved-key.result c.insert_reserved-key.ensures.was_vacant c.insert_reserved-key.ensures.updates fresh in
    rw (← c.self.view_is, c.enter.ensures.items, filled) refl
