use Rattle.ame_views.proofs.StoredLemmas.{made-goes-on}
use Rattle.ame_views.proofs.trace.made_in.Goals as goal

pub loop-number-preserved : goal.loop-number-preserved
loop-number-preserved c =
    made-goes-on _ c.loop-number.made.items _ c.args.store.now c.loop-number.number c.cell.result.now c.cell.ensures c.loop-number.invariant c.in_ok-note_made.ensures
