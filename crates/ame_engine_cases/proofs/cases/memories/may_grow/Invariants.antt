-- Each cell so far may grow.
use Rattle.std.proofs.Common.{All, take}
use Rattle.ame_store.specs.Cells.{CanGrow}
use Rattle.ame_engine_cases.proofs.cases.memories.may_grow.Given as goal

abbrev pub invariant-loop-l : goal.invariant-loop-l
invariant-loop-l l = All CanGrow (take l.l l.cells)
