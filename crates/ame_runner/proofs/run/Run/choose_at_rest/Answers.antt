use Rattle.std.proofs.Common.{subst}
use Rattle.ame_device.specs.Calls.{all_told}
use Rattle.ame_runner.specs.Stop.{FoundAtRest}
use Rattle.ame_runner.specs.View.{run_of}
use Rattle.ame_runner.proofs.ChooseLemmas.{goes-stop}
use Rattle.ame_runner.proofs.DrawLemmas.{ends-at-rest, draws-result}
use Rattle.ame_runner.proofs.run.Run.choose_at_rest.Goals as goal

pub returns-in-Some-clause-goes : goal.returns-in-Some-clause-goes
returns-in-Some-clause-goes g c =
    goes-stop (run_of c.args.self.now) (all_told g.D.Device.device_told c.args.devices.now.items) c.in-Some.stop
    (subst (FoundAtRest (run_of c.args.self.now)) c.in-Some.is c.in_ok-stop.ensures)

pub returns-in-Some-clause-drawn : goal.returns-in-Some-clause-drawn
returns-in-Some-clause-drawn g c =
    ends-at-rest c.args.numbers.now (run_of c.args.self.now) c.in-Some.stop c.requires (subst (FoundAtRest (run_of c.args.self.now)) c.in-Some.is c.in_ok-stop.ensures)

pub returns-clause-drawn : goal.returns-clause-drawn
returns-clause-drawn g c =
    let found = subst (FoundAtRest (run_of c.args.self.now)) c.in_default.is c.in_ok-stop.ensures in
    draws-result c.args.numbers.now c.one_of.new.numbers c.in_ok-number.number (run_of c.args.self.now) (run_of c.choose_resting.new.self) c.choose_resting.result
    c.in_ok-number.ensures.stream found.2 found.1 c.in_ok-number.ensures.place c.choose_resting.ensures.taken
