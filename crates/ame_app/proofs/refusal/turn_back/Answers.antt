use Rattle.std.proofs.Common.{ap, subst}
use Rattle.ame_shell.specs.Ends.{Ends, ends_of}
use Rattle.ame_app.specs.Headline.{IsToldAlone}
use Rattle.ame_app.specs.Reported.{reported}
use Rattle.ame_app.proofs.refusal.turn_back.Goals as goal

pub returns-clause-alone : goal.returns-clause-alone
returns-clause-alone g c =
    let r = c.tell.result in
    let after = ends_of g.K.Sink.written g.K.Sink.faults g.D.Device.device_told r.sink r.devices.items in
    subst (λ (before : Ends). IsToldAlone c.args.ahead.now c.args.own c.args.refusal.told (reported r) before after)
    (ap (λ v. v.ends) c.into_parts-sink.ensures) c.tell.ensures.alone
