use Rattle.std.proofs.Common.{All, subst}
use Rattle.ame_store.specs.Cells.{HasItsParity}
use Rattle.ame_engine.proofs.engine.read.numbers_tell_owners.Goals as goal

pub returns : goal.returns
returns g c = subst (All HasItsParity) c.cells.ensures.cells c.len.ensures.parity
