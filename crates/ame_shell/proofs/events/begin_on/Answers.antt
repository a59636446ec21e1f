use Rattle.std.proofs.Common.{◌≡◌, Ok, None, refl, ap, ◌∙◌}
use Rattle.ame_protocol.specs.Event.Causes.{certificates_in}
use Rattle.ame_engine.specs.Begins.{pick_of, HasBegun}
use Rattle.ame_engine.specs.Seen.{parts_of}
use Rattle.ame_engine.specs.Stops.{stopped_by, blocked_by}
use Rattle.ame_shell.specs.Asked.{IsToTakeMemory}
use Rattle.ame_shell.specs.Outcomes.{IsOutcomeOf, IsMade}
use Rattle.ame_shell.proofs.HandLemmas.{begun-fits, begun-met, idle-met, stopped-met}
use Rattle.ame_shell.proofs.DoneLemmas.{told-ok, told-on, stops-made, takes-going, lacked, lacked-due}
use Rattle.ame_shell.proofs.events.begin_on.Goals as goal

pub returns-in-Ok-Begun-clause-done : goal.returns-in-Ok-Begun-clause-done
returns-in-Ok-Begun-clause-done g c = λ told.
    let is = c.in-Ok-Begun.is ∙ ap Ok c.in-Ok-Begun.field-0-is in
    let met = begun-met (λ number m. HasBegun g.M.Runner.meaning c.args.seat number c.args.engine.now c.begin.new.self m) (λ why. c.begin.new.self ≡ stopped_by why c.args.engine.now)
    (c.begin.new.self ≡ blocked_by (certificates_in (parts_of g.M.Runner.meaning c.args.engine.now)) c.args.engine.now) (c.begin.new.self ≡ c.args.engine.now) (pick_of c.args.engine.now) c.in-Ok-Begun.machine (told-ok _ _ _ is c.begin.ensures.answer) in
    record { event = IsMade.makes _ _ (IsOutcomeOf.began met.0 (record { idle = c.requires.idle; meets = met.1 })) met.2.event; quiet = λ _. refl }

pub returns-in-Ok-Idle-clause-done : goal.returns-in-Ok-Idle-clause-done
returns-in-Ok-Idle-clause-done g c = λ told.
    let is = c.in-Ok-Idle.is ∙ ap Ok c.in-Ok-Idle.field-0-is in
    let met = idle-met (λ number m. HasBegun g.M.Runner.meaning c.args.seat number c.args.engine.now c.begin.new.self m) (λ why. c.begin.new.self ≡ stopped_by why c.args.engine.now)
    (c.begin.new.self ≡ blocked_by (certificates_in (parts_of g.M.Runner.meaning c.args.engine.now)) c.args.engine.now) (c.begin.new.self ≡ c.args.engine.now) (pick_of c.args.engine.now) (told-ok _ _ _ is c.begin.ensures.answer) in
    record { event = IsMade.waits (record { idle = c.requires.idle; meets = met.0 }) met.1; quiet = λ _. refl }

pub returns-in-Ok-Stopped-clause-done : goal.returns-in-Ok-Stopped-clause-done
returns-in-Ok-Stopped-clause-done g c = λ told.
    let is = c.in-Ok-Stopped.is ∙ ap Ok c.in-Ok-Stopped.field-0-is in
    let stops = stopped-met (λ number m. HasBegun g.M.Runner.meaning c.args.seat number c.args.engine.now c.begin.new.self m) (certificates_in (parts_of g.M.Runner.meaning c.args.engine.now)) c.args.engine.now c.begin.new.self (pick_of c.args.engine.now) (told-ok _ _ _ is c.begin.ensures.answer) in
    record {
      event = stops-made g.M.Runner.meaning c.args.engine.now c.args.seat None c.begin.new.self told (pick_of c.args.engine.now) refl c.requires.idle stops
          (λ why met. told-on _ _ _ is (c.begin.ensures.halts why met));
      quiet = λ _. refl;
    }

pub returns-in-Err-clause-done : goal.returns-in-Err-clause-done
returns-in-Err-clause-done g c = λ told.
    lacked g.M.Runner.meaning c.args.engine.now c.args.seat _ c.begin.new.self c.give_up.new.engine told _ c.in-Err.ensures.err
    (takes-going c.args.engine.now c.in-Err.ensures.wants) c.give_up.ensures.halts c.give_up.ensures.engine c.give_up.ensures.outcome

pub returns-in-Err-clause-due : goal.returns-in-Err-clause-due
returns-in-Err-clause-due g c =
    lacked-due c.args.engine.now c.args.seat _ _ c.give_up.ensures.outcome (IsToTakeMemory.begins c.requires.idle c.in-Err.ensures.wants)

pub returns-in-Ok-Begun-clause-fits : goal.returns-in-Ok-Begun-clause-fits
returns-in-Ok-Begun-clause-fits g c =
    let r = g.M.Runner.meaning in
    let m = c.in-Ok-Begun.machine in
    let core = c.begin.new.self in
    let is = c.in-Ok-Begun.is ∙ ap Ok c.in-Ok-Begun.field-0-is in
    let met = begun-met (λ number m. HasBegun r c.args.seat number c.args.engine.now core m) (λ why. core ≡ stopped_by why c.args.engine.now)
    (core ≡ blocked_by (certificates_in (parts_of r c.args.engine.now)) c.args.engine.now) (core ≡ c.args.engine.now) (pick_of c.args.engine.now) m (told-ok _ _ _ is c.begin.ensures.answer) in
    begun-fits r core c.args.seat m met.2.on met.2.rests
