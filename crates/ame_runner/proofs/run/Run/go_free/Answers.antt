use Rattle.std.proofs.Common.{sym, ◌∙◌}
use Rattle.ame_device.specs.Calls.{all_told}
use Rattle.ame_runner.specs.View.{run_of}
use Rattle.ame_runner.proofs.ChooseLemmas.{goes-tall}
use Rattle.ame_runner.proofs.DrawLemmas.{stops-free}
use Rattle.ame_runner.proofs.run.Run.go_free.Goals as goal

pub returns-then-grows-clause-goes : goal.returns-then-grows-clause-goes
returns-then-grows-clause-goes g c =
    let told = all_told g.D.Device.device_told c.args.devices.now.items in
    goes-tall (run_of c.args.self.now) (run_of c.end_tall.new.self) told c.in_ok-entry.entry c.in_ok-entry.ensures.runs (c.in_ok-entry.ensures.hears told)

pub returns-then-grows-clause-taken : goal.returns-then-grows-clause-taken
returns-then-grows-clause-taken g c =
    stops-free c.args.number (run_of c.args.self.now) (run_of c.end_tall.new.self) c.in_ok-entry.entry (sym c.in_ok-grows.ensures ∙ c.if-grows.true)
    c.in_ok-entry.ensures.note c.in_ok-entry.ensures.out
