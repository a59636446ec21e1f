use Rattle.ame_baton.proofs.Pops.{takes, elsewhere}
use Rattle.ame_baton.proofs.turn.Baton.try_take.Goals as goal

pub pop_as-taken-requires-clause-rule : goal.pop_as-taken-requires-clause-rule
pop_as-taken-requires-clause-rule g c = let r = g.S.Rowed in (
  takes r.stands_for r.empty_row r.seat_of _ _ c.args.seat.now.seated,
  elsewhere r.stands_for r.empty_row r.seat_of _ _ c.args.seat.now.seated c.requires.free,
)
