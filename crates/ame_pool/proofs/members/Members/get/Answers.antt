use Rattle.std.proofs.Common.{◌∙◌, ap, refl}
use Rattle.ame_pool.proofs.Words.{get, key_of}
use Rattle.ame_pool.proofs.SlotLemmas.{find_held}
use Rattle.ame_pool.proofs.members.Members.get.Goals as goal

pub returns-in-Some : goal.returns-in-Some
returns-in-Some g c =
    let keyed = c.in-Some.ensures ∙ ap (key_of c.args.number) c.as_slice.ensures.value in
    rw (← c.self.view_is, find_held (get c.self.inside.slots) c.self.inside.numbers.items c.self.invariant.rising c.args.number, ← keyed) c.member_in.ensures

pub returns-in-None : goal.returns-in-None
returns-in-None g c =
    let keyed = c.in-None.ensures ∙ ap (key_of c.args.number) c.as_slice.ensures.value in
    rw (← c.self.view_is, find_held (get c.self.inside.slots) c.self.inside.numbers.items c.self.invariant.rising c.args.number, ← keyed) refl
