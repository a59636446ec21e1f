use Rattle.std.proofs.Common.{Some, None, refl, ◌∙◌}
use Rattle.ame_device.specs.Calls.{all_told}
use Rattle.ame_runner.specs.View.{run_of}
use Rattle.ame_runner.proofs.RunLemmas.{running-ends, frame-then}
use Rattle.ame_runner.proofs.HearLemmas.{hears-still}
use Rattle.ame_runner.proofs.ChooseLemmas.{goes-as, plays-lost, plays-until, plays-runs, plays-hears}
use Rattle.ame_runner.proofs.DrawLemmas.{course-on, draws-as, ends-drawn}
use Rattle.ame_runner.proofs.run.Run.play_on.Goals as goal

pub loop-init : goal.loop-init
loop-init g c = record {
  frame = record { program = refl; limit = refl };
  count = refl;
  runs = λ running. running;
  hears = hears-still (run_of c.args.self.now) (run_of c.args.self.now) (all_told g.D.Device.device_told c.args.devices.now.items) refl;
  drawn = λ program limit seed running course. course;
}

pub loop-preserved : goal.loop-preserved
loop-preserved g c =
    let was = c.loop.invariant in
    let before = all_told g.D.Device.device_told c.args.devices.now.items in
    let mid = all_told g.D.Device.device_told c.loop.devices.items in
    let after = all_told g.D.Device.device_told c.choose.new.devices.items in
    let a = run_of c.args.self.now in
    let b = run_of c.loop.self in
    let q = run_of c.choose.new.self in
    let next = goes-as b q mid after c.in_ok-stop.field-0 None c.in_default.is c.in_ok-stop.ensures.goes in
    record {
      frame = frame-then a b q was.frame c.choose.ensures.frame;
      count = c.choose.ensures.count ∙ was.count;
      runs = plays-runs a b q before mid after was.runs was.hears next;
      hears = plays-hears a b q before mid after was.runs was.hears next;
      drawn = λ program limit seed running course.
          course-on program limit seed c.loop.numbers c.choose.new.numbers b q (was.drawn program limit seed running course)
          (draws-as c.loop.numbers c.choose.new.numbers b q c.in_ok-stop.field-0 None c.in_default.is c.in_ok-stop.ensures.drawn);
    }

pub returns-in_err-stop-clause-plays : goal.returns-in_err-stop-clause-plays
returns-in_err-stop-clause-plays g c =
    plays-lost (run_of c.args.self.now) (run_of c.choose.new.self) (all_told g.D.Device.device_told c.args.devices.now.items)
    (all_told g.D.Device.device_told c.choose.new.devices.items) c.from_residual.result c.from_residual.ensures.0
    (λ running. c.in_err-stop.ensures.goes (c.loop.invariant.runs running))

pub returns-in-Some-clause-plays : goal.returns-in-Some-clause-plays
returns-in-Some-clause-plays g c =
    let was = c.loop.invariant in
    let before = all_told g.D.Device.device_told c.args.devices.now.items in
    let mid = all_told g.D.Device.device_told c.loop.devices.items in
    let after = all_told g.D.Device.device_told c.choose.new.devices.items in
    let a = run_of c.args.self.now in
    let b = run_of c.loop.self in
    let q = run_of c.choose.new.self in
    plays-until a b q before mid after was.runs was.hears c.in-Some.stop (goes-as b q mid after c.in_ok-stop.field-0 (Some c.in-Some.stop) c.in-Some.is c.in_ok-stop.ensures.goes)

pub returns-clause-plays : goal.returns-clause-plays
returns-clause-plays g c = λ running. running-ends (run_of c.loop.self) (c.loop.invariant.runs running)

pub returns-in_err-stop-clause-frame : goal.returns-in_err-stop-clause-frame
returns-in_err-stop-clause-frame g c = frame-then (run_of c.args.self.now) (run_of c.loop.self) (run_of c.choose.new.self) c.loop.invariant.frame c.choose.ensures.frame

pub returns-in-Some-clause-frame : goal.returns-in-Some-clause-frame
returns-in-Some-clause-frame g c = frame-then (run_of c.args.self.now) (run_of c.loop.self) (run_of c.choose.new.self) c.loop.invariant.frame c.choose.ensures.frame

pub returns-in-Some-clause-drawn : goal.returns-in-Some-clause-drawn
returns-in-Some-clause-drawn g c = λ program limit seed running course.
    let was = c.loop.invariant in
    let b = run_of c.loop.self in
    let q = run_of c.choose.new.self in
    ends-drawn c.loop.numbers b q c.in-Some.stop program limit seed (was.drawn program limit seed running course)
    (draws-as c.loop.numbers c.choose.new.numbers b q c.in_ok-stop.field-0 (Some c.in-Some.stop) c.in-Some.is c.in_ok-stop.ensures.drawn (was.runs running))
