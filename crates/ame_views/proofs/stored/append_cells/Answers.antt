use Rattle.ame_views.proofs.StoredLemmas.{cells_go_on}
use Rattle.ame_views.proofs.stored.append_cells.Goals as goal

pub loop-number-preserved : goal.loop-number-preserved
loop-number-preserved c =
    cells_go_on c.args.places.now _ c.loop-number.page _ c.args.store.now c.loop-number.number c.cell.result.now c.cell.ensures c.loop-number.invariant
    c.in_ok-append_cell.ensures
