use Rattle.ame_baton.proofs.Keeping.{give_leaves}
use Rattle.ame_baton.proofs.theorems.give_leaves_row_and_entries.Goals as goal

pub returns : goal.returns
returns g c = let r = g.S.Rowed in give_leaves r.stands_for r.seat_of g.M.Leaves.leaves
