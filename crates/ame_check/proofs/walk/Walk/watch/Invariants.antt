-- This number of steps was watched.
use Rattle.ame_check.proofs.StandingLemmas.{Watching}
use Rattle.ame_check.proofs.walk.Walk.watch.Given as goal

abbrev pub invariant-loop-made : goal.invariant-loop-made
invariant-loop-made g l =
    Watching g.M.Runner.meaning l.self.code.now l.self.entry.now.fresh l.self.cells.now.entries l.initial.overlay.entries l.initial.machine l.self.entry.now.steps l.overlay.entries l.machine l.made l.reads.entries
