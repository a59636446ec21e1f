-- The cells so far are those of the first locations.
use Rattle.std.proofs.Common.{Some}
use Rattle.ame_engine.proofs.ResumedCells.{Fills}
use Rattle.ame_engine.proofs.engine.resume.cells.cells_of.Given as goal

abbrev pub invariant-loop-l : goal.invariant-loop-l
invariant-loop-l g l = Fills g.V.Copied.same l.initial.stored.entries l.stored.entries (Some l.first) l.l-counter l.cells.items
