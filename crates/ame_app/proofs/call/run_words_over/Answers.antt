use Rattle.std.proofs.Common.{ℕ, [], map, ap, subst}
use Rattle.std.specs.Prelude.{option_map, string_bytes, vec_len}
use Rattle.std.specs.Arc.{arc_value}
use Rattle.ame_shell.specs.Ends.{Ends, ends_of}
use Rattle.ame_app.specs.Answered.{IsPromised}
use Rattle.ame_app.specs.Calls.{what_is_given, call_of}
use Rattle.ame_app.specs.Causes.{IsRefusedWith}
use Rattle.ame_app.specs.Jobs.{IsJobOf}
use Rattle.ame_app.specs.Reported.{run_view, reported}
use Rattle.ame_app.specs.declared.parts.ReportPart.{ReportPart}
use Rattle.ame_app.proofs.PromisedLemmas.{job-promised, refusal-promised}
use Rattle.ame_app.proofs.TurnedLemmas.{refusal-other}
use Rattle.ame_app.proofs.call.run_words_over.Goals as goal

pub turn_away-requires : goal.turn_away-requires
turn_away-requires g c =
    let call = call_of (map string_bytes c.args.words.now) (what_is_given g.S.Source.left g.S.Source.faults c.args.source.now)
    (what_is_given g.S.Source.left g.S.Source.faults c.asked_by_words.new.source) c.len.result in
    let refusal = c.in-Err.refusal in
    record { other = refusal-other call refusal.text.items [] ReportPart.Nothing refusal.told c.in-Err.ensures.refused.cause }

pub returns-in-Ok : goal.returns-in-Ok
returns-in-Ok g c =
    let words = map string_bytes c.args.words.now in
    let old = what_is_given g.S.Source.left g.S.Source.faults c.args.source.now in
    let new = what_is_given g.S.Source.left g.S.Source.faults c.asked_by_words.new.source in
    let r = c.answer.result in
    let after = ends_of g.K.Sink.written g.K.Sink.faults g.D.Device.device_told r.sink r.devices.items in
    let asked = c.in-Ok.asked in
    let code = arc_value asked.job.code in
    let call = call_of words old new (vec_len c.args.devices) in
    let job = subst (λ (n : ℕ). IsJobOf (call_of words old new n) asked.text.items code asked.job.command asked.job.front) c.len.ensures c.in-Ok.ensures.job in
    record {
      answered = subst (λ (e : Ends). IsPromised call (reported r) e after) (ap (λ v. v.ends) c.new.ensures)
          (job-promised c.spells_one_command.ensures call (reported r) c.new.result.ends after asked.job.command asked.job.front asked.text.items code
          (ap (λ v. v.items) c.answer.ensures.text) job c.answer.ensures.ran c.answer.ensures.turned_away);
    }

pub returns-in-Err : goal.returns-in-Err
returns-in-Err g c =
    let words = map string_bytes c.args.words.now in
    let old = what_is_given g.S.Source.left g.S.Source.faults c.args.source.now in
    let new = what_is_given g.S.Source.left g.S.Source.faults c.asked_by_words.new.source in
    let r = c.turn_away.result in
    let before = ends_of g.K.Sink.written g.K.Sink.faults g.D.Device.device_told c.args.sink c.args.devices.items in
    let after = ends_of g.K.Sink.written g.K.Sink.faults g.D.Device.device_told r.sink r.devices.items in
    let refusal = c.in-Err.refusal in
    let call = call_of words old new (vec_len c.args.devices) in
    let refused = subst (λ (n : ℕ). IsRefusedWith (call_of words old new n) refusal.text.items refusal.command refusal.told) c.len.ensures c.in-Err.ensures.refused in
    record {
      answered = refusal-promised c.spells_one_command.ensures call (reported r) before after refusal.text.items refusal.command refusal.told
          (ap (option_map run_view) c.turn_away.ensures.run) (ap (λ v. v.items) c.turn_away.ensures.text) c.turn_away.ensures.command refused c.turn_away.ensures.alone;
    }
