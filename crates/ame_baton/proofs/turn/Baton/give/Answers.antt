use Rattle.ame_baton.proofs.Pushes.{gives, sees_empty}
use Rattle.ame_baton.proofs.turn.Baton.give.Goals as goal

pub push_as-requires-clause-rule : goal.push_as-requires-clause-rule
push_as-requires-clause-rule g c = let r = g.S.Rowed in (
  gives r.stands_for r.empty_row r.seat_of g.M.Leaves.leaves _ _ _ c.args.state c.args.seat.now.seated c.requires.holds c.requires.may,
  sees_empty r.stands_for r.empty_row r.seat_of _ _ c.requires.holds,
)
