use Rattle.std.proofs.Common.{◌≡◌, ◌∙◌, Some, IsSome, refl, sym, ap, subst, arith}
use Rattle.std.proofs.lemmas.Option.{same_Some}
use Rattle.ame_pool.proofs.Words.{Counts, find, counted, after_transition}
use Rattle.ame_pool.proofs.SlotLemmas.{slot_changed}
use Rattle.ame_pool.proofs.StandingLemmas.{turned_number}
use Rattle.ame_pool.proofs.members.Members.turn.Goals as goal

pub slot_in-key-requires-clause-there : goal.slot_in-key-requires-clause-there
slot_in-key-requires-clause-there g c = subst (λ s. IsSome (find c.args.number s.list)) (sym c.self.view_is) c.requires.there

pub leave-requires : goal.leave-requires
leave-requires g c =
    c.requires.counted c.index_mut-member.result.now
    (subst (λ s. find c.args.number s.list ≡ Some c.index_mut-member.result.now) c.self.view_is (c.slot_in-key.ensures.found ∙ c.index_mut-member.ensures.value))

pub enter-requires-clause-busy : goal.enter-requires-clause-busy
enter-requires-clause-busy g c = omega (arith, ap (λ (x : Counts). x.busy) c.leave.ensures, c.requires.busy)

pub enter-requires-clause-protected : goal.enter-requires-clause-protected
enter-requires-clause-protected g c = omega (arith, ap (λ (x : Counts). x.protected) c.leave.ensures, c.requires.protected)

pub enter-requires-clause-exhausted : goal.enter-requires-clause-exhausted
enter-requires-clause-exhausted g c = omega (arith, ap (λ (x : Counts). x.exhausted) c.leave.ensures, c.requires.exhausted)

pub enter-requires-clause-parked : goal.enter-requires-clause-parked
enter-requires-clause-parked g c = omega (arith, ap (λ (x : Counts). x.parked) c.leave.ensures, c.requires.parked)

pub returns-clause-members : goal.returns-clause-members
returns-clause-members g c =
    rw (← c.self.view_is, c.turn-left.ensures.member, slot_changed c.slot_in-key.ensures c.index_mut-member.result.now c.index_mut-member.ensures.value (after_transition c.args.to) (turned_number c.args.to)) refl

pub returns-clause-readied : goal.returns-clause-readied
returns-clause-readied g c = rw (← c.self.view_is, c.slot_in-key.ensures.found, c.index_mut-member.ensures.value, c.turn-left.ensures.readied) refl

pub returns-clause-inside : goal.returns-clause-inside
returns-clause-inside g c = rw (← c.self.view_is, c.slot_in-key.ensures.found, c.index_mut-member.ensures.value, c.turn-left.ensures.member) refl

pub returns-clause-counts : goal.returns-clause-counts
returns-clause-counts g c m found =
    let was = c.index_mut-member.result.now in
    let there = subst (λ s. find c.args.number s.list ≡ Some m) (sym c.self.view_is) found in
    let same : was ≡ m = same_Some was m (sym (c.slot_in-key.ensures.found ∙ c.index_mut-member.ensures.value) ∙ there) in
    record {
      others = c.leave.new.self;
      left = c.leave.ensures ∙ ap (λ x. counted x c.leave.new.self) same;
      entered = c.enter.ensures ∙ ap (λ x. counted x c.leave.new.self) (c.turn-left.ensures.member ∙ ap (after_transition c.args.to) same);
    }
