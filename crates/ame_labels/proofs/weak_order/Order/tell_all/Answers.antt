use Rattle.std.proofs.Common.{Err, sym, ap}
use Rattle.ame_term.specs.declared.semantics.Label.{Label}
use Rattle.ame_labels.proofs.OrderLemmas.{told_none, told_tries, told_one, told_all, refused_there}
use Rattle.ame_labels.proofs.weak_order.Order.tell_all.Goals as goal

pub loop-index-init : goal.loop-index-init
loop-index-init c = told_none c.args.labels.now c.args.tries.now c.args.self.now c.requires.empty c.requires.none

pub loop-index-preserved : goal.loop-index-preserved
loop-index-preserved c =
    told_one c.args.labels.now c.args.tries.now c.loop-index.index _ c.in_ok-rest.rest.now c.args.self.now c.tell_tries.new.self c.tell.new.self
    c.loop-index-test.true
    (told_tries c.args.labels.now c.args.tries.now c.loop-index.index c.loop-index.rest.now c.in_ok-rest.rest.now c.args.self.now c.loop-index.self
    c.tell_tries.new.self c.loop-index.invariant c.in_ok-rest.ensures.told)
    c.in_ok-rest.ensures.later c.in_ok-tell.ensures.told

pub returns-clause-told : goal.returns-clause-told
returns-clause-told c =
    told_all c.args.labels.now c.args.tries.now c.loop-index.index c.loop-index.rest.now c.in_ok-_later._later.now c.args.self.now c.loop-index.self
    c.tell_tries-2.new.self c.loop-index-test.false c.loop-index.invariant c.in_ok-_later.ensures.told c.in_ok-_later.ensures.later

pub returns-in_err-tell-clause-illegal : goal.returns-in_err-tell-clause-illegal
returns-in_err-tell-clause-illegal c =
    let before =
    told_tries c.args.labels.now c.args.tries.now c.loop-index.index c.loop-index.rest.now c.in_ok-rest.rest.now c.args.self.now c.loop-index.self
    c.tell_tries.new.self c.loop-index.invariant c.in_ok-rest.ensures.told in
    λ illegal.
    let answered = rw illegal at c.from_residual-in_err-tell.ensures in
    refused_there c.args.labels.now c.args.tries.now c.loop-index.index (Label.Activate 0) c.in_ok-rest.rest.now c.args.self.now c.tell_tries.new.self
    c.loop-index-test.true before (c.in_err-tell.ensures.illegal (ap Err (sym answered.1)))
