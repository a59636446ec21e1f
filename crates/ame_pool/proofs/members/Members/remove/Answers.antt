use Rattle.std.proofs.Common.{IsSome, refl, sym, subst}
use Rattle.ame_pool.proofs.Words.{find}
use Rattle.ame_pool.proofs.SlotLemmas.{slot_emptied}
use Rattle.ame_pool.proofs.members.Members.remove.Goals as goal

pub slot_in-key-requires-clause-there : goal.slot_in-key-requires-clause-there
slot_in-key-requires-clause-there g c = subst (λ s. IsSome (find c.args.number s.list)) (sym c.self.view_is) c.requires

pub returns-clause-members : goal.returns-clause-members
returns-clause-members g c = rw (← c.self.view_is, slot_emptied c.slot_in-key.ensures c.remove.new.self c.remove.ensures.updates) refl

pub returns-clause-member : goal.returns-clause-member
returns-clause-member g c = rw (← c.self.view_is, c.slot_in-key.ensures.found, c.remove.ensures.value) refl
