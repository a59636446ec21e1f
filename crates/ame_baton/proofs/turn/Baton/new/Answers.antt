use Rattle.std.proofs.Common.{arith}
use Rattle.ame_baton.proofs.Opens.{opens, opens_empty}
use Rattle.ame_baton.proofs.turn.Baton.new.Goals as goal

pub push_as-requires-clause-rule : goal.push_as-requires-clause-rule
push_as-requires-clause-rule g c = let r = g.S.Rowed in
    rw (c.in-Ok.ensures.2, c.in-Ok.ensures.3) (
      opens r.stands_for r.empty_row r.seat_of _ c.args.state (r.opening c.args.state) (r.seats_in (r.opening c.args.state)) (omega (arith, c.requires.some)) c.requires.opening,
      opens_empty r.stands_for r.empty_row r.seat_of,
    )
