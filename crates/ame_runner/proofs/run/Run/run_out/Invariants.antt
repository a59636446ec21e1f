use Rattle.std.proofs.Common.{List, None, length}
use Rattle.ame_device.specs.declared.told.Told.{Told}
use Rattle.ame_runner.specs.Run.{IsRunning, KeepsFrame, CountsNothing}
use Rattle.ame_runner.specs.Stop.{HearsOn}
use Rattle.ame_runner.specs.Drawing.{RunsOn}
use Rattle.ame_runner.specs.View.{run_of}
use Rattle.ame_runner.proofs.run.Run.run_out.Given as goal

abbrev pub invariant-loop-alloc : goal.invariant-loop-alloc
invariant-loop-alloc l = record {
  frame : KeepsFrame (run_of l.initial.self) (run_of l.self);
  counts : CountsNothing (run_of l.initial.self) (run_of l.self);
  runs : IsRunning (run_of l.initial.self) → IsRunning (run_of l.self);
  runs_on : RunsOn (run_of l.initial.self) (run_of l.self);
  hears : (told : List Told) → HearsOn None (run_of l.initial.self) (run_of l.self) told told;
}

abbrev pub decreases-loop-alloc : goal.decreases-loop-alloc
decreases-loop-alloc l = length l.self.left.items
