use Rattle.ame_baton.proofs.Splits.{forks}
use Rattle.ame_baton.proofs.turn.Baton.seat.Goals as goal

pub another-pass-requires-clause-rule : goal.another-pass-requires-clause-rule
another-pass-requires-clause-rule g c = let r = g.S.Rowed in forks r.stands_for r.empty_row r.seat_of _ _ c.args.first.now.seated c.requires.first c.requires.free c.requires.room
