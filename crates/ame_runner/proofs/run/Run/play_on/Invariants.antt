use Rattle.std.proofs.Common.{◌≡◌, ℕ, None, length}
use Rattle.ame_term.specs.Tree.{Tree}
use Rattle.ame_device.specs.Calls.{all_told}
use Rattle.ame_runner.specs.Run.{IsRunning, KeepsFrame}
use Rattle.ame_runner.specs.Stop.{HearsOn}
use Rattle.ame_runner.specs.Drawn.{Course}
use Rattle.ame_runner.specs.View.{run_of}
use Rattle.ame_runner.proofs.run.Run.play_on.Given as goal

abbrev pub invariant-loop : goal.invariant-loop
invariant-loop g l = record {
  frame : KeepsFrame (run_of l.initial.self) (run_of l.self);
  count : length l.devices.items ≡ length l.initial.devices.items;
  runs : IsRunning (run_of l.initial.self) → IsRunning (run_of l.self);
  hears :
      HearsOn None (run_of l.initial.self) (run_of l.self) (all_told g.D.Device.device_told l.initial.devices.items)
      (all_told g.D.Device.device_told l.devices.items);
  drawn :
      (program : Tree) (limit seed : ℕ) → IsRunning (run_of l.initial.self) → Course program limit seed l.initial.numbers (run_of l.initial.self)
      → Course program limit seed l.numbers (run_of l.self);
}
