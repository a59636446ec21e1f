use Rattle.std.proofs.Common.{◌∙◌, IsSome, subst, sym, ap}
use Rattle.ame_pool.proofs.Words.{key_of}
use Rattle.ame_pool.proofs.SlotLemmas.{known, slot_at}
use Rattle.ame_pool.proofs.members.slot_in.Goals as goal

pub known_slot-requires-clause-there : goal.known_slot-requires-clause-there
known_slot-requires-clause-there g c =
    subst (λ es. IsSome (key_of c.args.number es)) (sym c.as_slice.ensures.value) (known c.args.slots.now c.args.numbers.now.items c.requires.rising c.args.number c.requires.there)

pub returns : goal.returns
returns g c =
    slot_at c.args.slots.now c.args.numbers.now.items c.requires.rising c.args.number c.requires.there _
    (sym (ap (key_of c.args.number) c.as_slice.ensures.value) ∙ c.known_slot.ensures)
