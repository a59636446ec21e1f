use Rattle.std.proofs.Common.{◌≡◌, ◌+◌, refl, arith}
use Rattle.std.proofs.lemmas.Grind.{common_steps}
use Rattle.ame_labels.proofs.OrderLemmas.{tries_more}
use Rattle.ame_labels.proofs.weak_order.Order.tell_tries.Goals as goal

pub loop-t-preserved : goal.loop-t-preserved
loop-t-preserved c =
    let count : c.in_ok-self.field-0 ≡ c.loop-t.self.entries + 1 = grind (arith, common_steps, c.in_ok-self.ensures.ok_part, c.checked_add.ensures) in
    tries_more c.args.n c.args.tries.now c.loop-t.rest.now c.in-Some.others.now c.in-Some.t.now c.args.self.now c.loop-t.self _ c.loop-t.invariant
    c.in-Some.ensures.cases.0 c.if-t-n.false refl refl refl count c.in_ok-append_try.ensures
