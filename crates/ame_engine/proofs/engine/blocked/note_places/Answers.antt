use Rattle.std.proofs.Common.{subst, sym}
use Rattle.ame_engine.proofs.BlockedLemmas.{ArePlaces, no-places, places-next, places-end}
use Rattle.ame_engine.proofs.engine.blocked.note_places.Goals as goal

pub loop-i-init : goal.loop-i-init
loop-i-init c = subst (ArePlaces c.args.entries.now c.args.count 0) (sym c.in_ok-places.ensures) (no-places c.args.entries.now c.args.count)

pub loop-i-preserved : goal.loop-i-preserved
loop-i-preserved c =
    places-next c.args.entries.now c.args.count c.loop-i.i c.index-entries-i.result c.loop-i-test.true c.index-entries-i.is _ _ c.mark.ensures c.loop-i.invariant

pub returns-clause-count : goal.returns-clause-count
returns-clause-count c = c.loop-i.invariant.length_is

pub returns-clause-told : goal.returns-clause-told
returns-clause-told c = places-end c.args.entries.now c.args.count c.loop-i.i c.loop-i.places.items c.loop-i-test.false c.loop-i.invariant
