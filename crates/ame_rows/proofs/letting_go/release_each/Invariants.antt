-- The rest of the log does to the cells now what all of it did to those before.
use Rattle.std.proofs.Common.{drop}
use Rattle.ame_rows.proofs.LettingGoLemmas.{Releasing}
use Rattle.ame_rows.proofs.letting_go.release_each.Given as goal

abbrev pub invariant-loop-undo : goal.invariant-loop-undo
invariant-loop-undo g l = Releasing l.seat l.fn.store l.store (drop l.undo-index l.undos)
