use Rattle.ame_baton.proofs.Keeping.{row_at_end}
use Rattle.ame_baton.proofs.theorems.rows_at_the_end_were_left.Goals as goal

pub returns : goal.returns
returns g c = let r = g.S.Rowed in row_at_end r.stands_for r.empty_row r.seat_of
