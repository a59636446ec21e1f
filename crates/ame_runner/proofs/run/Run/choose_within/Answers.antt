use Rattle.std.proofs.Common.{None, inr, refl}
use Rattle.ame_device.specs.Calls.{all_told}
use Rattle.ame_runner.specs.View.{run_of}
use Rattle.ame_runner.proofs.ChooseLemmas.{goes-quiet}
use Rattle.ame_runner.specs.Drawn.{GoesOnWhenDrawn}
use Rattle.ame_runner.proofs.DrawLemmas.{draws-member, draws-result}
use Rattle.ame_runner.proofs.run.Run.choose_within.Goals as goal

pub returns-then-is_spent-clause-goes : goal.returns-then-is_spent-clause-goes
returns-then-is_spent-clause-goes g c =
    let told = all_told g.D.Device.device_told c.args.devices.now.items in
    goes-quiet (run_of c.args.self.now) (run_of c.run_out.new.self) told c.in_ok-run_out.ensures.runs (c.in_ok-run_out.ensures.hears told)

pub returns-then-is_active-clause-goes : goal.returns-then-is_active-clause-goes
returns-then-is_active-clause-goes g c =
    let told = all_told g.D.Device.device_told c.args.devices.now.items in
    goes-quiet (run_of c.args.self.now) (run_of c.go_on.new.self) told c.in_ok-go_on.ensures.runs (c.in_ok-go_on.ensures.hears told)

pub returns-then-is_spent-clause-drawn : goal.returns-then-is_spent-clause-drawn
returns-then-is_spent-clause-drawn g c = inr (record { same = refl; spent = c.is_spent.ensures.yes c.if-is_spent.true; out = c.in_ok-run_out.ensures.out })

pub returns-then-is_active-clause-drawn : goal.returns-then-is_active-clause-drawn
returns-then-is_active-clause-drawn g c =
    draws-member c.args.numbers.now c.one_of.new.numbers c.in_ok-number.number (run_of c.args.self.now) (run_of c.go_on.new.self) None c.in_ok-number.ensures.stream
    (c.is_spent.ensures.no c.if-is_spent.false) c.in_ok-number.ensures.some c.in_ok-number.ensures.place
    (GoesOnWhenDrawn.goes_on (c.is_active.ensures c.if-is_active.true) c.in_ok-go_on.ensures.goes)

pub returns-clause-drawn : goal.returns-clause-drawn
returns-clause-drawn g c =
    draws-result c.args.numbers.now c.one_of.new.numbers c.in_ok-number.number (run_of c.args.self.now) (run_of c.go_free.new.self) c.go_free.result
    c.in_ok-number.ensures.stream (c.is_spent.ensures.no c.if-is_spent.false) c.in_ok-number.ensures.some c.in_ok-number.ensures.place c.go_free.ensures.taken
