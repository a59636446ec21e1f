use Rattle.std.proofs.Common.{◌≡◌, None}
use Rattle.ame_sim.specs.Questions.{who_waits}
use Rattle.ame_engine.specs.Whole.{AreLimits}
use Rattle.ame_shell.specs.Shell.{Opening, ShellView, IsShell}
use Rattle.ame_sim.specs.Crew.{AreResting, left_to_play}
use Rattle.ame_sim.specs.Picks.{picks_of, HasAnswered}
use Rattle.ame_sim.specs.Run.{IsPlaying}
use Rattle.ame_sim.proofs.run.play.Given as goal

abbrev pub invariant-loop-crew : goal.invariant-loop-crew
invariant-loop-crew g l = record {
  ranges : AreLimits l.crew.core.limits;
  limits : l.crew.core.limits ≡ l.fn.crew.core.limits;
  waits : l.book.waits ≡ who_waits l.crew.core.limits.seats (picks_of l.book.mades.items);
  rests : l.crew.core.stop ≡ None → AreResting l.book.waits l.crew.core;
  plays : (first : ShellView _ _ _) → IsPlaying g.M.Runner.meaning l.fn.crew.core.limits.seats first l.fn.crew l.fn.book.mades.items
      → IsPlaying g.M.Runner.meaning l.fn.crew.core.limits.seats first l.crew l.book.mades.items;
  answers : HasAnswered l.fn.crew.core.limits.seats (g.H.Chooser.strategy l.fn.chooser) l.fn.book.mades.items (g.H.Chooser.strategy l.chooser) l.book.mades.items;
  keeps : (opening : Opening _) → IsShell g.M.Runner.meaning opening l.fn.crew → IsShell g.M.Runner.meaning opening l.crew;
}

abbrev pub decreases-loop-crew : goal.decreases-loop-crew
decreases-loop-crew g l = left_to_play l.crew.core l.book.waits
