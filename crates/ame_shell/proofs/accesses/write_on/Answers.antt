use Rattle.std.proofs.Common.{◌≡◌, Ok, Some, refl, sym, ap, ◌∙◌, subst}
use Rattle.ame_term.specs.Tree.{Val}
use Rattle.ame_machine.specs.declared.wants.Wants.TheVariants as wants
use Rattle.ame_machine.specs.Move.{after_input}
use Rattle.ame_engine.proofs.MakesLemmas.{met-made}
use Rattle.ame_shell.specs.declared.work.Work.TheVariants as work
use Rattle.ame_shell.specs.Asked.{IsToTakeMemory}
use Rattle.ame_shell.specs.Outcomes.{IsOutcomeOf, IsMade}
use Rattle.ame_shell.proofs.GoesLemmas.{write-on}
use Rattle.ame_shell.proofs.HandLemmas.{write-sets, running, back-fits, lacked-fits}
use Rattle.ame_shell.proofs.DoneLemmas.{accesses-from, lacked, lacked-due}
use Rattle.ame_shell.proofs.accesses.write_on.Goals as goal

pub returns-in-Ok-Wrote-clause-at : goal.returns-in-Ok-Wrote-clause-at
returns-in-Ok-Wrote-clause-at g c = λ _.
    let m = c.args.machine.now in
    let fed = c.feed.new.self in
    let a = c.requires.writes in
    let on = c.requires.turn.at.on in
    let sound = g.met.M.Runner.sound c.args.engine.now.code m on.machine in
    let v = write-sets (g.M.Runner.meaning.stage c.args.engine.now.code m) a.l.0 (sound.told (wants.Write a.l) a.wants) in
    write-on g.M.Runner.meaning c.args.engine.now c.write.new.self c.args.seat m fed c.stands.ensures c.requires.turn.at a.outside c.requires.early sound
    (subst (λ k. g.M.Runner.meaning.is_machine k fed) c.requires.same c.feed.ensures.machine) a.l v.0 a.wants
    (c.write.ensures.event a.l v.0 a.wants v.1 (c.in-Ok-Wrote.is ∙ ap Ok c.in-Ok-Wrote.field-0-is))
    (sym c.in-Ok-Wrote.field-0-is ∙ c.in-Ok-Wrote.ensures.answer a.l a.wants)
    (subst (λ k. after_input (g.M.Runner.meaning.stage k m).want Val.Unit (g.M.Runner.meaning.stage k m) ≡ Some (g.M.Runner.meaning.stage k fed))
    c.requires.same c.feed.ensures.stage)

pub returns-in-Ok-Wrote-clause-done : goal.returns-in-Ok-Wrote-clause-done
returns-in-Ok-Wrote-clause-done g c = λ told.
    let m = c.args.machine.now in
    let a = c.requires.writes in
    let s = g.M.Runner.meaning.stage c.args.engine.now.code m in
    let v = write-sets s a.l.0 ((g.met.M.Runner.sound c.args.engine.now.code m c.requires.turn.at.on.machine).told (wants.Write a.l) a.wants) in
    record {
      event = IsMade.makes _ _
          (IsOutcomeOf.wrote s a.l v.0
          (accesses-from c.args.engine.now s c.requires.turn.going c.requires.turn.left (wants.Write a.l) a.wants a.outside c.requires.early) v.1)
          (c.write.ensures.event a.l v.0 a.wants v.1 (c.in-Ok-Wrote.is ∙ ap Ok c.in-Ok-Wrote.field-0-is));
      quiet = λ _. refl;
    }

pub returns-in-Ok-Conflict-clause-back : goal.returns-in-Ok-Conflict-clause-back
returns-in-Ok-Conflict-clause-back g c = λ _.
    let a = c.requires.turn.at.on.stands.attempt in
    let l = c.requires.writes.l in
    let task = running g.M.Runner.meaning c.args.engine.now c.args.engine.now c.args.seat c.args.machine.now c.requires.turn.at c.requires.writes.outside in
    back-fits g.M.Runner.meaning c.args.engine.now c.write.new.self c.args.seat _ a task
    (met-made g.M.Runner.meaning c.args.engine.now c.write.new.self c.args.seat a l _
    (c.write.ensures.back l a _ c.requires.writes.wants task (c.in-Ok-Conflict.is ∙ ap Ok c.in-Ok-Conflict.field-0-is)))

pub returns-in-Ok-Conflict-clause-done : goal.returns-in-Ok-Conflict-clause-done
returns-in-Ok-Conflict-clause-done g c = λ told.
    let a = c.requires.turn.at.on.stands.attempt in
    let l = c.requires.writes.l in
    let s = g.M.Runner.meaning.stage c.args.engine.now.code c.args.machine.now in
    let task = running g.M.Runner.meaning c.args.engine.now c.args.engine.now c.args.seat c.args.machine.now c.requires.turn.at c.requires.writes.outside in
    record {
      event = IsMade.makes _ _
          (IsOutcomeOf.met s l a _
          (accesses-from c.args.engine.now s c.requires.turn.going c.requires.turn.left (wants.Write l) c.requires.writes.wants c.requires.writes.outside c.requires.early))
          (c.write.ensures.back l a _ c.requires.writes.wants task (c.in-Ok-Conflict.is ∙ ap Ok c.in-Ok-Conflict.field-0-is));
      quiet = λ _. refl;
    }

pub returns-in-Err-clause-at : goal.returns-in-Err-clause-at
returns-in-Err-clause-at g c = λ _.
    lacked-fits g.M.Runner.meaning c.args.engine.now c.give_up.new.engine c.args.seat c.write.new.self c.in-Err.ensures.err c.give_up.ensures.engine
    (work.Running c.args.machine.now) c.requires.turn.at

pub returns-in-Err-clause-done : goal.returns-in-Err-clause-done
returns-in-Err-clause-done g c = λ told.
    lacked g.M.Runner.meaning c.args.engine.now c.args.seat _ c.write.new.self c.give_up.new.engine told _ c.in-Err.ensures.err c.requires.turn.going
    c.give_up.ensures.halts c.give_up.ensures.engine c.give_up.ensures.outcome

pub returns-in-Err-clause-due : goal.returns-in-Err-clause-due
returns-in-Err-clause-due g c =
    let a = c.requires.writes in
    let s = g.M.Runner.meaning.stage c.args.engine.now.code c.args.machine.now in
    lacked-due c.args.engine.now c.args.seat _ _ c.give_up.ensures.outcome
    (IsToTakeMemory.accesses s (wants.Write a.l)
    (accesses-from c.args.engine.now s c.requires.turn.going c.requires.turn.left (wants.Write a.l) a.wants a.outside c.requires.early) refl)
