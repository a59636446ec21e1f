use Rattle.std.proofs.Common.{Ok, Some, sym, ap, ◌∙◌, subst}
use Rattle.ame_machine.specs.MachineView.{place_shown, with_answer}
use Rattle.ame_protocol.specs.declared.stop.Stop.{Stop}
use Rattle.ame_protocol.specs.Event.Counting.{Counted, one_counted}
use Rattle.ame_engine.specs.Seen.{parts_of}
use Rattle.ame_engine.proofs.VisitPlaceLemmas.{visits-as}
use Rattle.ame_shell.proofs.HandLemmas.{visited-fits, refused-fits, at-work-busy, stopped-undoes, lacked-done}
use Rattle.ame_shell.specs.Asked.{IsToTakeMemory}
use Rattle.ame_shell.specs.Outcomes.{IsOutcomeOf, IsMade, IsDone}
use Rattle.ame_shell.proofs.DoneLemmas.{visit-moved, visits-from, lacked, lacked-due}
use Rattle.ame_shell.proofs.visits.free_on.Goals as goal

pub visit-requires-clause-visits : goal.visit-requires-clause-visits
visit-requires-clause-visits g c = record {
  inside = c.requires.inside;
  moved = visit-moved (g.M.Runner.meaning.stage c.args.engine.now.code c.args.machine) (g.met.M.Runner.sound c.args.engine.now.code c.args.machine c.requires.turn.at.on.machine) c.args.engine.now.limits.slice c.requires.ready c.requires.inside
      c.requires.short;
  short = c.requires.short;
}

pub returns-in-Ok-Home-clause-home : goal.returns-in-Ok-Home-clause-home
returns-in-Ok-Home-clause-home g c = λ _.
    let a = c.requires.turn.at.on.stands.attempt in
    let task = visits-as (parts_of g.M.Runner.meaning c.args.engine.now) c.args.seat (g.M.Runner.meaning.stage c.args.engine.now.code c.args.machine) c.requires.turn.at.on.stands c.requires.inside in
    let h = c.visit.ensures.home a task (c.in-Ok-Home.is ∙ ap Ok c.in-Ok-Home.field-0-is) in
    visited-fits g.M.Runner.meaning c.args.engine.now c.visit.new.engine c.args.seat (one_counted Counted.Free) a a.tried.number h.comes.steps
    (with_answer h.answer (place_shown h.comes)) h.comes.inside h.memory task h.event

pub returns-in-Ok-DeviceFault-clause-home : goal.returns-in-Ok-DeviceFault-clause-home
returns-in-Ok-DeviceFault-clause-home g c = λ _.
    let a = c.requires.turn.at.on.stands.attempt in
    let task = visits-as (parts_of g.M.Runner.meaning c.args.engine.now) c.args.seat (g.M.Runner.meaning.stage c.args.engine.now.code c.args.machine) c.requires.turn.at.on.stands c.requires.inside in
    let r = c.visit.ensures.refused a c.in-Ok-DeviceFault.device task (c.in-Ok-DeviceFault.is ∙ ap Ok c.in-Ok-DeviceFault.field-0-is) in
    refused-fits g.M.Runner.meaning c.args.engine.now c.visit.new.engine c.args.seat _ _ a a.tried.number task r.event

pub returns-in-Ok-Home-clause-done : goal.returns-in-Ok-Home-clause-done
returns-in-Ok-Home-clause-done g c =
    let a = c.requires.turn.at.on.stands.attempt in
    let task = visits-as (parts_of g.M.Runner.meaning c.args.engine.now) c.args.seat (g.M.Runner.meaning.stage c.args.engine.now.code c.args.machine) c.requires.turn.at.on.stands c.requires.inside in
    let h = c.visit.ensures.home a task (c.in-Ok-Home.is ∙ ap Ok c.in-Ok-Home.field-0-is) in
    let at = h.makes a task in
    record {
      event = IsMade.makes _ _ (IsOutcomeOf.came_home (g.M.Runner.meaning.stage c.args.engine.now.code c.args.machine) h.comes h.answer h.memory a at.place
          (visits-from c.args.engine.now (g.M.Runner.meaning.stage c.args.engine.now.code c.args.machine) c.requires.turn.going c.requires.turn.left c.requires.inside c.requires.short) h.visits at.shows) at.makes;
      quiet = λ e. absurd (cc);
    }

pub returns-in-Ok-DeviceFault-clause-done : goal.returns-in-Ok-DeviceFault-clause-done
returns-in-Ok-DeviceFault-clause-done g c =
    let a = c.requires.turn.at.on.stands.attempt in
    let task = visits-as (parts_of g.M.Runner.meaning c.args.engine.now) c.args.seat (g.M.Runner.meaning.stage c.args.engine.now.code c.args.machine) c.requires.turn.at.on.stands c.requires.inside in
    let r = c.visit.ensures.refused a c.in-Ok-DeviceFault.device task (c.in-Ok-DeviceFault.is ∙ ap Ok c.in-Ok-DeviceFault.field-0-is) in
    record {
      event = IsMade.makes _ _ (IsOutcomeOf.device_failed (g.M.Runner.meaning.stage c.args.engine.now.code c.args.machine) c.in-Ok-DeviceFault.device r.argument a
          (visits-from c.args.engine.now (g.M.Runner.meaning.stage c.args.engine.now.code c.args.machine) c.requires.turn.going c.requires.turn.left c.requires.inside c.requires.short) r.wanted r.fails) (r.makes a task);
      quiet = λ e. absurd (cc);
    }

pub returns-in-Err-clause-back : goal.returns-in-Err-clause-back
returns-in-Err-clause-back g c = λ _.
    stopped-undoes g.M.Runner.meaning c.args.engine.now c.give_up.new.engine c.args.seat Stop.NoMemory
    (at-work-busy g.M.Runner.meaning c.args.engine.now c.args.engine.now c.args.seat c.args.machine c.requires.turn.at)
    (lacked-done g.M.Runner.meaning c.args.engine.now c.give_up.new.engine c.args.seat c.visit.new.engine c.in-Err.ensures.err c.give_up.ensures.engine)

pub returns-in-Err-clause-done : goal.returns-in-Err-clause-done
returns-in-Err-clause-done g c =
    let told = c.args.io.now.ends.told in
    subst (λ ts. IsDone g.M.Runner.meaning c.args.seat (Some (g.M.Runner.meaning.stage c.args.engine.now.code c.args.machine)) c.args.engine.now c.give_up.new.engine told ts c.give_up.result) (sym c.in-Err.ensures.quiet)
    (lacked g.M.Runner.meaning c.args.engine.now c.args.seat _ c.visit.new.engine c.give_up.new.engine told _ c.in-Err.ensures.err c.requires.turn.going
    c.give_up.ensures.halts c.give_up.ensures.engine c.give_up.ensures.outcome)

pub returns-in-Err-clause-due : goal.returns-in-Err-clause-due
returns-in-Err-clause-due g c =
    lacked-due c.args.engine.now c.args.seat _ _ c.give_up.ensures.outcome
    (IsToTakeMemory.visits (g.M.Runner.meaning.stage c.args.engine.now.code c.args.machine) (visits-from c.args.engine.now (g.M.Runner.meaning.stage c.args.engine.now.code c.args.machine) c.requires.turn.going c.requires.turn.left c.requires.inside c.requires.short))
