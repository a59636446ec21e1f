use Rattle.std.proofs.Common.{◌&&◌, not, sym, get_or, refl, ap}
use Rattle.ame_pool.proofs.Words.{Loc, lists, among, get_or_default, take_all}
use Rattle.ame_pool.proofs.IndexLemmas.{listed_as, dropped_more, dropped_kept}
use Rattle.ame_pool.proofs.index.unwatch.Goals as goal
use Rattle.ame_pool.proofs.index.unwatch.Goals.{then-not-is_among, else-not-is_among}

pub loop-l-init : goal.loop-l-init
loop-l-init c = record { here = λ _. refl; others = λ _ _ _. refl }

pub loop-l-preserved : goal.loop-l-preserved
loop-l-preserved c =
    let x : Loc = get_or c.args.gone.now c.loop-l.l-index (record { 0 = 0 }) in
    let read = get_or_default c.args.gone.now c.loop-l.l-index (record { 0 = 0 }) x c.loop-l-test.true in
    let more = dropped_more c.args.number c.args.index.now c.args.gone.now c.loop-l.l-index x c.loop-l-test.true read
    c.args.kept.now c.loop-l.index c.loop-l.invariant in
    let same = dropped_kept c.args.number c.args.index.now c.args.gone.now c.loop-l.l-index x c.loop-l-test.true read
    c.args.kept.now c.loop-l.index c.loop-l.invariant in
    elim c.if-not-is_among.branch [
      | then-not-is_among w ↦ rw w.index-is (more (sym w.if-not-is_among.ensures) w.drop_one.new.index w.drop_one.ensures)
      | else-not-is_among w ↦ rw w.index-is (same (sym w.if-not-is_among.ensures))
    ]

pub returns : goal.returns
returns c =
    listed_as c.loop-l.invariant (λ k. ap (λ q. not (among k q && not (among k c.args.kept.now)) && lists c.args.index.now k c.args.number)
    (take_all c.loop-l.l-index c.args.gone.now c.loop-l-test.false))
