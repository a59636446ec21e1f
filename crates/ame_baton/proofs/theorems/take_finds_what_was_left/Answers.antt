use Rattle.ame_baton.proofs.Keeping.{take_finds}
use Rattle.ame_baton.proofs.theorems.take_finds_what_was_left.Goals as goal

pub returns : goal.returns
returns g c = let r = g.S.Rowed in take_finds r.stands_for r.seat_of
