-- The machine has gone on from its beginning, and hasn't made more steps than are to be made.
use Rattle.std.proofs.Common.{◌-◌}
use Rattle.ame_check.proofs.WalkLemmas.{HasGoneOn}
use Rattle.ame_check.proofs.walk.Walk.go.Given as goal

abbrev pub invariant-walk : goal.invariant-walk
invariant-walk g l =
    HasGoneOn g.M.Runner.meaning l.self.code.now l.self.entry.now.fresh l.self.cells.now.entries l.initial.overlay.entries l.overlay.entries l.initial.machine l.machine l.steps

abbrev pub decreases-walk : goal.decreases-walk
decreases-walk g l = l.steps - (g.M.Runner.meaning.stage l.self.code.now l.machine).steps
