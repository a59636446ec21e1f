use Rattle.std.proofs.Common.{Ok, refl, ap, ◌∙◌}
use Rattle.ame_machine.specs.declared.wants.Wants.TheVariants as wants
use Rattle.ame_machine.specs.MachineView.{place_shown}
use Rattle.ame_protocol.specs.Event.Event.{Find}
use Rattle.ame_engine.proofs.MakesLemmas.{noted-made, stale-made}
use Rattle.ame_shell.specs.declared.work.Work.TheVariants as work
use Rattle.ame_shell.proofs.HandLemmas.{running, back-fits, noted-fits, lacked-fits}
use Rattle.ame_shell.specs.Asked.{IsToTakeMemory}
use Rattle.ame_shell.proofs.DoneLemmas.{runs-from, lacked, lacked-due}
use Rattle.ame_shell.specs.Outcomes.{IsOutcomeOf, IsMade}
use Rattle.ame_shell.proofs.rows.block_on.Goals as goal

pub returns-in-Ok-Noted-clause-back : goal.returns-in-Ok-Noted-clause-back
returns-in-Ok-Noted-clause-back g c = λ _.
    let a = c.requires.turn.at.on.stands.attempt in
    let s = g.M.Runner.meaning.stage c.args.engine.now.code c.args.machine.now in
    let task = running g.M.Runner.meaning c.args.engine.now c.args.engine.now c.args.seat c.args.machine.now c.requires.turn.at c.requires.outside in
    noted-fits g.M.Runner.meaning c.args.engine.now c.block.new.self c.args.seat _ a s.steps (place_shown s) task
    (noted-made g.M.Runner.meaning c.args.engine.now c.block.new.self s c.args.seat a
    (c.block.ensures.noted a task (c.in-Ok-Noted.is ∙ ap Ok c.in-Ok-Noted.field-0-is)))

pub returns-in-Ok-Noted-clause-done : goal.returns-in-Ok-Noted-clause-done
returns-in-Ok-Noted-clause-done g c = λ told.
    let a = c.requires.turn.at.on.stands.attempt in
    let s = g.M.Runner.meaning.stage c.args.engine.now.code c.args.machine.now in
    let task = running g.M.Runner.meaning c.args.engine.now c.args.engine.now c.args.seat c.args.machine.now c.requires.turn.at c.requires.outside in
    let at = c.block.ensures.noted a task (c.in-Ok-Noted.is ∙ ap Ok c.in-Ok-Noted.field-0-is) in
    record {
      event = IsMade.makes _ _
          (IsOutcomeOf.noted s a at.place (runs-from c.args.engine.now s c.requires.turn.going c.requires.turn.left wants.Block c.requires.told c.requires.outside) at.shows)
          at.makes;
      quiet = λ _. refl;
    }

pub returns-in-Ok-Invalid-clause-back : goal.returns-in-Ok-Invalid-clause-back
returns-in-Ok-Invalid-clause-back g c = λ _.
    let a = c.requires.turn.at.on.stands.attempt in
    let task = running g.M.Runner.meaning c.args.engine.now c.args.engine.now c.args.seat c.args.machine.now c.requires.turn.at c.requires.outside in
    back-fits g.M.Runner.meaning c.args.engine.now c.block.new.self c.args.seat _ a task
    (stale-made g.M.Runner.meaning c.args.engine.now c.block.new.self c.args.seat a Find.Block
    (c.block.ensures.back a c.in-Ok-Invalid.bad task (c.in-Ok-Invalid.is ∙ ap Ok c.in-Ok-Invalid.field-0-is)))

pub returns-in-Ok-Invalid-clause-done : goal.returns-in-Ok-Invalid-clause-done
returns-in-Ok-Invalid-clause-done g c = λ told.
    let a = c.requires.turn.at.on.stands.attempt in
    let s = g.M.Runner.meaning.stage c.args.engine.now.code c.args.machine.now in
    let task = running g.M.Runner.meaning c.args.engine.now c.args.engine.now c.args.seat c.args.machine.now c.requires.turn.at c.requires.outside in
    let is = c.in-Ok-Invalid.is ∙ ap Ok c.in-Ok-Invalid.field-0-is in
    record {
      event = IsMade.makes _ _
          (IsOutcomeOf.not_noted s a _ (runs-from c.args.engine.now s c.requires.turn.going c.requires.turn.left wants.Block c.requires.told c.requires.outside)
          (c.block.ensures.bad c.in-Ok-Invalid.bad is)) (c.block.ensures.back a c.in-Ok-Invalid.bad task is);
      quiet = λ _. refl;
    }

pub returns-in-Err-clause-at : goal.returns-in-Err-clause-at
returns-in-Err-clause-at g c = λ _.
    lacked-fits g.M.Runner.meaning c.args.engine.now c.give_up.new.engine c.args.seat c.block.new.self c.in-Err.ensures.err c.give_up.ensures.engine
    (work.Running c.args.machine.now) c.requires.turn.at

pub returns-in-Err-clause-done : goal.returns-in-Err-clause-done
returns-in-Err-clause-done g c = λ told.
    lacked g.M.Runner.meaning c.args.engine.now c.args.seat _ c.block.new.self c.give_up.new.engine told _ c.in-Err.ensures.err c.requires.turn.going
    c.give_up.ensures.halts c.give_up.ensures.engine c.give_up.ensures.outcome

pub returns-in-Err-clause-due : goal.returns-in-Err-clause-due
returns-in-Err-clause-due g c =
    let s = g.M.Runner.meaning.stage c.args.engine.now.code c.args.machine.now in
    lacked-due c.args.engine.now c.args.seat _ _ c.give_up.ensures.outcome
    (IsToTakeMemory.notes s (runs-from c.args.engine.now s c.requires.turn.going c.requires.turn.left wants.Block c.requires.told c.requires.outside)
    c.in-Err.ensures.lacks)
