-- The cells so far are those of the first locations.
use Rattle.std.proofs.Common.{Some}
use Rattle.ame_engine.proofs.ResumedCells.{Fills}
use Rattle.ame_app.specs.Jobs.{are_alike}
use Rattle.ame_app.proofs.verbs.weak.store.cells_of.Given as goal

abbrev pub invariant-loop-l : goal.invariant-loop-l
invariant-loop-l l = Fills are_alike l.initial.stored.entries l.stored.entries (Some l.first) l.l-counter l.cells.items
