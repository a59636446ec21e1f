use Rattle.std.proofs.Common.{ℕ, List, Some, refl, ap, subst, arith}
use Rattle.std.specs.Prelude.{option_map}
use Rattle.ame_device.specs.Calls.{all_told}
use Rattle.ame_shell.specs.Ends.{Ends}
use Rattle.ame_app.specs.Alone.{command_of}
use Rattle.ame_app.specs.Answered.{IsPromised}
use Rattle.ame_app.specs.Calls.{IsCallOf}
use Rattle.ame_app.specs.Reported.{run_view, reported}
use Rattle.ame_app.specs.Standard.{told_by}
use Rattle.ame_c.specs.CallResult.{Certifies, Schedules}
use Rattle.ame_c.proofs.MadeLemmas.{as-ends, new-before, two-devices}
use Rattle.ame_c.proofs.call_result.make.Goals as goal

pub returns-clause-made : goal.returns-clause-made
returns-clause-made c =
    let r = c.run_alone_over-report.result in
    let devices = c.in-Ok.devices in
    let run = option_map run_view r.run in
    let after = as-ends (Some r.sink.bytes.items) r.sink.faults (all_told told_by r.devices.items) in
    let len = devices.ok.0 in
    let two = two-devices devices.items c.in-Ok.ensures in
    record {
      report = reported r;
      after = after;
      promised = λ call of. subst (λ (e : Ends). IsPromised call (reported r) e after)
          (new-before (Some c.new.result.bytes.items) c.new.result.faults (all_told told_by devices.items) (ap Some c.new.ensures.bytes)
          c.new.ensures.faults c.in-Ok.ensures)
          (c.run_alone_over-report.ensures.answered call (subst (λ (n : ℕ). IsCallOf call (command_of c.args.command) c.args.bytes.now n)
          (omega (arith, len, two)) of));
      told_is = c.told_of.ensures;
      lines_are = refl;
      certificate_is = subst (λ (t : List ℕ). Certifies run t c.in-Ok-Ok.certificate.items) c.deref.ensures.value c.in-Ok-Ok.ensures;
      schedule_is = subst (λ (t : List ℕ). Schedules run t c.in-Ok-Ok.schedule.items) c.deref-2.ensures.value c.in-Ok-Ok.ensures';
    }
