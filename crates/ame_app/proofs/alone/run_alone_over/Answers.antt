use Rattle.std.proofs.Common.{ℕ, sym, ap, subst}
use Rattle.std.specs.Prelude.{option_map, vec_len}
use Rattle.std.specs.Arc.{arc_value}
use Rattle.ame_shell.specs.Ends.{Ends, ends_of}
use Rattle.ame_app.specs.Alone.{command_of}
use Rattle.ame_app.specs.Answered.{IsPromised}
use Rattle.ame_app.specs.Calls.{IsCallOf}
use Rattle.ame_app.specs.Reported.{run_view, reported}
use Rattle.ame_app.proofs.PromisedLemmas.{job-promised, refusal-promised}
use Rattle.ame_app.proofs.alone.run_alone_over.Goals as goal

pub returns-in-Ok : goal.returns-in-Ok
returns-in-Ok g c =
    let r = c.answer_alone.result in
    let after = ends_of g.K.Sink.written g.K.Sink.faults g.D.Device.device_told r.sink r.devices.items in
    let asked = c.in-Ok.asked in
    let code = arc_value asked.job.code in
    record {
      answered = λ call of. subst (λ (e : Ends). IsPromised call (reported r) e after) (ap (λ v. v.ends) c.new.ensures)
          (job-promised c.spells_one_command.ensures call (reported r) c.new.result.ends after asked.job.command asked.job.front asked.text.items code
          (ap (λ v. v.items) c.answer_alone.ensures.text)
          (c.in-Ok.ensures.job call (subst (λ (n : ℕ). IsCallOf call (command_of c.args.command) c.args.bytes.now n) (sym c.len.ensures) of))
          c.answer_alone.ensures.ran c.answer_alone.ensures.turned_away);
    }

pub returns-in-Err : goal.returns-in-Err
returns-in-Err g c =
    let r = c.turn_away.result in
    let before = ends_of g.K.Sink.written g.K.Sink.faults g.D.Device.device_told c.args.sink c.args.devices.items in
    let after = ends_of g.K.Sink.written g.K.Sink.faults g.D.Device.device_told r.sink r.devices.items in
    let refusal = c.in-Err.refusal in
    record {
      answered = λ call of. refusal-promised c.spells_one_command.ensures call (reported r) before after refusal.text.items refusal.command refusal.told
          (ap (option_map run_view) c.turn_away.ensures.run) (ap (λ v. v.items) c.turn_away.ensures.text) c.turn_away.ensures.command
          (c.in-Err.ensures.refused call (subst (λ (n : ℕ). IsCallOf call (command_of c.args.command) c.args.bytes.now n) (sym c.len.ensures) of))
          c.turn_away.ensures.alone;
    }
