use Rattle.std.proofs.Common.{◌++◌, List, ℕ, refl, sym, ap, subst}
use Rattle.std.specs.Arc.{arc_value}
use Rattle.ame_shell.specs.Ends.{Ends, ends_of}
use Rattle.ame_app.specs.declared.status.Status.{Status}
use Rattle.ame_app.specs.Jobs.{IsRunMade, SpeaksAfter}
use Rattle.ame_app.specs.Verbs.{written_behind}
use Rattle.ame_app.specs.Verdict.{verdict}
use Rattle.ame_app.proofs.RunLemmas.{headline, told-of}
use Rattle.ame_app.proofs.answer.conclude.Goals as goal

pub returns-clause-ran : goal.returns-clause-ran
returns-clause-ran g c = λ call before job made.
    let written = g.K.Sink.written in
    let faults = g.K.Sink.faults in
    let left = c.args.made.left in
    let ahead = c.args.made.ahead.items in
    let command = c.args.asked.job.command in
    let code = arc_value c.args.asked.job.code in
    let status = c.speak_after-status.result in
    let parts = c.into_parts-sink.result in
    let sink = c.speak_after-status.new.sink in
    let mid = ends_of written faults g.D.Device.device_told parts.0 parts.1.items in
    let after = ends_of written faults g.D.Device.device_told sink parts.1.items in
    let told = c.of-told.result in
    let spoken = subst (λ (l : List ℕ). SpeaksAfter left l told (verdict told ++ written_behind command left told) status (written parts.0)
    (faults parts.0) (written sink) (faults sink)) c.deref.ensures.value c.speak_after-status.ensures in
    let speaks = told-of left ahead told (λ (t : Status). verdict t ++ written_behind command left t) status
    (written parts.0) (faults parts.0) (written sink) (faults sink) c.of-told.ensures spoken in
    headline call status c.args.asked.text.items code c.args.asked.job.front before mid after refl command left ahead job
    (subst (λ (e : Ends). IsRunMade command c.args.asked.job.front code before left ahead e) (sym (ap (λ v. v.ends) c.into_parts-sink.ensures)) made) speaks
