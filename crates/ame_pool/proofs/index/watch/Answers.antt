use Rattle.std.proofs.Common.{get_or, refl, ap}
use Rattle.ame_pool.proofs.Words.{Loc, lists, among, IsBetween, ◌||◌, get_or_default, take_all}
use Rattle.ame_pool.proofs.IndexLemmas.{on_err, listed_as, added_more, added_part}
use Rattle.ame_pool.proofs.index.watch.Goals as goal

pub loop-l-init : goal.loop-l-init
loop-l-init c = record { here = λ _. refl; others = λ _ _ _. refl }

pub returns-in_err-add-clause-err : goal.returns-in_err-add-clause-err
returns-in_err-add-clause-err c =
    on_err c.from_residual.result (IsBetween c.args.number c.args.locs.now c.args.index.now c.add.new.index)
    (added_part c.args.number c.args.index.now c.args.locs.now c.loop-l.l-index c.loop-l.index c.add.new.index c.loop-l.invariant c.in_err-add.ensures.err)

pub loop-l-preserved : goal.loop-l-preserved
loop-l-preserved c =
    let x : Loc = get_or c.args.locs.now c.loop-l.l-index (record { 0 = 0 }) in
    let read = get_or_default c.args.locs.now c.loop-l.l-index (record { 0 = 0 }) x c.loop-l-test.true in
    added_more c.args.number c.args.index.now c.args.locs.now c.loop-l.l-index x c.loop-l-test.true read _ _ c.loop-l.invariant c.in_ok-add.ensures.ok

pub returns-clause-ok : goal.returns-clause-ok
returns-clause-ok c =
    listed_as c.loop-l.invariant (λ k. ap (λ q. among k q || lists c.args.index.now k c.args.number)
    (take_all c.loop-l.l-index c.args.locs.now c.loop-l-test.false))
