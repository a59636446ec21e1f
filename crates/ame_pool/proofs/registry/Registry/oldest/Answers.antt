use Rattle.std.proofs.Common.{◌≡◌, ◌∙◌, Some, true, false, IsTrue, refl, sym, ap, subst}
use Rattle.ame_pool.proofs.Words.{find, is_ready, is_busy, oldest, oldest_or_wait, IsAt, list_any}
use Rattle.ame_pool.proofs.OrderLemmas.{front_ready}
use Rattle.ame_pool.proofs.ChoiceLemmas.{idle_is, idle_waits, held_up, inside_ready, front_is}
use Rattle.ame_pool.proofs.KeptLemmas.{one_there}
use Rattle.ame_pool.proofs.registry.Registry.oldest.Goals as goal

pub may_begin-requires : goal.may_begin-requires
may_begin-requires g c =
    let n = c.in-Some.number in
    rw (one_there (find n c.self.inside.members.list) (λ m. IsTrue (is_ready m))
    (front_ready c.self.inside.members.list c.self.inside.ready.order c.self.invariant.sound n (sym c.in-Some.ensures))).1 refl

pub returns-in_default-clause-oldest : goal.returns-in_default-clause-oldest
returns-in_default-clause-oldest g c = c.idle.ensures ∙ sym (idle_is c.self.invariant (sym c.in_default.ensures)) ∙ ap oldest c.self.view_is

pub returns-in_default-clause-waits : goal.returns-in_default-clause-waits
returns-in_default-clause-waits g c e = subst (λ s. IsTrue (list_any is_busy s.members)) c.self.view_is (idle_waits c.self.invariant (sym c.idle.ensures ∙ e))

pub returns-then-may_begin-clause-oldest : goal.returns-then-may_begin-clause-oldest
returns-then-may_begin-clause-oldest g c =
    let n = c.in-Some.number in
    let first = one_there (find n c.self.inside.members.list) (λ m. IsTrue (is_ready m))
    (front_ready c.self.inside.members.list c.self.inside.ready.order c.self.invariant.sound n (sym c.in-Some.ensures)) in
    front_is c.self.invariant n (sym c.in-Some.ensures) first.0 first.1 _ c.self.view_is true (sym c.if-may_begin.true ∙ c.may_begin.ensures first.0 first.1)

pub returns-then-may_begin-clause-ready : goal.returns-then-may_begin-clause-ready
returns-then-may_begin-clause-ready g c n e =
    let same : c.in-Some.number ≡ n = cc in
    subst (IsAt is_ready n) c.self.view_is (front_ready c.self.inside.members.list c.self.inside.ready.order c.self.invariant.sound n (sym c.in-Some.ensures ∙ ap Some same))

pub returns-in-Some-first_inside-clause-oldest : goal.returns-in-Some-first_inside-clause-oldest
returns-in-Some-first_inside-clause-oldest g c =
    let n = c.in-Some.number in
    let first = one_there (find n c.self.inside.members.list) (λ m. IsTrue (is_ready m))
    (front_ready c.self.inside.members.list c.self.inside.ready.order c.self.invariant.sound n (sym c.in-Some.ensures)) in
    ap oldest_or_wait c.in-Some-first_inside.ensures
    ∙ front_is c.self.invariant n (sym c.in-Some.ensures) first.0 first.1 _ c.self.view_is false (sym c.if-may_begin.false ∙ c.may_begin.ensures first.0 first.1)

pub returns-in-Some-first_inside-clause-ready : goal.returns-in-Some-first_inside-clause-ready
returns-in-Some-first_inside-clause-ready g c n e =
    let same : c.in-Some-first_inside.inside ≡ n = cc in
    subst (IsAt is_ready n) c.self.view_is (inside_ready c.self.invariant n (sym c.in-Some-first_inside.ensures ∙ ap Some same))

pub returns-in-None-clause-oldest : goal.returns-in-None-clause-oldest
returns-in-None-clause-oldest g c =
    let n = c.in-Some.number in
    let first = one_there (find n c.self.inside.members.list) (λ m. IsTrue (is_ready m))
    (front_ready c.self.inside.members.list c.self.inside.ready.order c.self.invariant.sound n (sym c.in-Some.ensures)) in
    ap oldest_or_wait c.in-None.ensures
    ∙ front_is c.self.invariant n (sym c.in-Some.ensures) first.0 first.1 _ c.self.view_is false (sym c.if-may_begin.false ∙ c.may_begin.ensures first.0 first.1)

pub returns-in-None-clause-waits : goal.returns-in-None-clause-waits
returns-in-None-clause-waits g c e =
    let n = c.in-Some.number in
    let first = one_there (find n c.self.inside.members.list) (λ m. IsTrue (is_ready m))
    (front_ready c.self.inside.members.list c.self.inside.ready.order c.self.invariant.sound n (sym c.in-Some.ensures)) in
    subst (λ s. IsTrue (list_any is_busy s.members)) c.self.view_is (held_up c.self.invariant first.0 (sym (c.may_begin.ensures first.0 first.1) ∙ c.if-may_begin.false))
