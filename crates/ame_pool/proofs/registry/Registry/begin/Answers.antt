use Rattle.std.proofs.Common.{◌==◌, cond, not, refl, ap, ◌∙◌, arith}
use Rattle.std.proofs.lemmas.List.Filters.{sum_by-filter_both}
use Rattle.ame_pool.proofs.Words.{Transition, is_ready, taken, is_inside_at, count_by}
use Rattle.ame_pool.proofs.OrderLemmas.{order_once}
use Rattle.ame_pool.proofs.CountLemmas.{counts_in}
use Rattle.ame_pool.proofs.KeptLemmas.{opened, side_turned, kept_held}
use Rattle.ame_pool.proofs.registry.Registry.begin.Goals as goal

pub turn-turned-requires-clause-there : goal.turn-turned-requires-clause-there
turn-turned-requires-clause-there g c = rw (opened is_ready c.args.number _ c.args.self.now c.self.view_is c.requires).found refl

pub turn-turned-requires-clause-counted : goal.turn-turned-requires-clause-counted
turn-turned-requires-clause-counted g c m found = counts_in c.self.inside.members.list c.self.inside.counts c.self.invariant.counted c.args.number m found

pub invariant_of-self : goal.invariant_of-self
invariant_of-self g c =
    let n = c.args.number in
    let o = opened is_ready n _ c.args.self.now c.self.view_is c.requires in
    let counts = c.turn-turned.ensures.counts o.member o.found in
    let side = side_turned n Transition.Begin c.self.inside.members.list o.member o.found c.turn-turned.result.inside c.turn-turned.ensures.inside in
    let queues = c.take.ensures ∙ ap (λ i. taken n i c.self.inside.ready) side in
    rw (c.turn-turned.ensures.members, queues)
    (kept_held c.self.invariant n o.member o.found Transition.Begin counts.others c.turn-turned.new.counts counts.left counts.entered o.passes refl refl)

pub take-requires-clause-order : goal.take-requires-clause-order
take-requires-clause-order g c = order_once c.self.inside.members.list c.self.inside.ready.order c.self.invariant.sound c.args.number

pub take-requires-clause-inside : goal.take-requires-clause-inside
take-requires-clause-inside g c =
    let n = c.args.number in
    let inside = is_inside_at c.self.inside.members.list in
    omega (
      arith,
      order_once c.self.inside.members.list c.self.inside.ready.order c.self.invariant.sound n,
      ap (count_by (λ k. k == n)) c.self.invariant.inside,
      sum_by-filter_both inside (λ k. not (inside k)) (λ _. refl) (λ k. cond (k == n) 1 0) c.self.inside.ready.order,
    )
