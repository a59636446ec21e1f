use Rattle.ame_baton.proofs.Joins.{merges}
use Rattle.ame_baton.proofs.turn.Baton.join.Goals as goal

pub absorb-requires-clause-rule : goal.absorb-requires-clause-rule
absorb-requires-clause-rule g c = let r = g.S.Rowed in let f = c.requires.first in let n = c.requires.next in
    rw c.into_pass.ensures (merges r.stands_for r.empty_row r.seat_of _ _ _ _ f.seated f.numbered f.free c.args.seat.seated n.numbered n.free)
