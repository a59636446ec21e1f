use Rattle.std.proofs.Common.{◌≡◌, Some, refl, subst}
use Rattle.ame_machine.specs.declared.wants.Wants.TheVariants as wants
use Rattle.ame_machine.specs.Move.{after_input}
use Rattle.ame_shell.specs.declared.work.Work.TheVariants as work
use Rattle.ame_shell.specs.Asked.{IsToTakeMemory}
use Rattle.ame_shell.specs.Outcomes.{IsOutcomeOf, IsMade}
use Rattle.ame_shell.proofs.GoesLemmas.{read-on}
use Rattle.ame_shell.proofs.HandLemmas.{lacked-fits}
use Rattle.ame_shell.proofs.DoneLemmas.{accesses-from, lacked, lacked-due}
use Rattle.ame_shell.proofs.accesses.read_on.Goals as goal

pub returns-in-Ok-clause-at : goal.returns-in-Ok-clause-at
returns-in-Ok-clause-at g c =
    let m = c.args.machine.now in
    let fed = c.feed.new.self in
    let a = c.requires.reads in
    let on = c.requires.turn.at.on in
    read-on g.M.Runner.meaning c.args.engine.now c.read.new.self c.args.seat m fed c.stands.ensures c.requires.turn.at a.outside c.requires.early
    (g.met.M.Runner.sound c.args.engine.now.code m on.machine) (subst (λ k. g.M.Runner.meaning.is_machine k fed) c.requires.same c.feed.ensures.machine)
    a.l c.in-Ok.value a.wants (c.in-Ok.ensures.event a.l a.wants) (c.in-Ok.ensures.value a.l a.wants)
    (subst (λ k. after_input (g.M.Runner.meaning.stage k m).want (g.M.Runner.meaning.value_of k c.in-Ok.value) (g.M.Runner.meaning.stage k m) ≡ Some (g.M.Runner.meaning.stage k fed))
    c.requires.same c.feed.ensures.stage)

pub returns-in-Ok-clause-done : goal.returns-in-Ok-clause-done
returns-in-Ok-clause-done g c = λ told.
    let a = c.requires.reads in
    let s = g.M.Runner.meaning.stage c.args.engine.now.code c.args.machine.now in
    record {
      event = IsMade.makes _ _
          (IsOutcomeOf.read s a.l (accesses-from c.args.engine.now s c.requires.turn.going c.requires.turn.left (wants.Read a.l) a.wants a.outside c.requires.early))
          (c.in-Ok.ensures.event a.l a.wants);
      quiet = λ _. refl;
    }

pub returns-in-Err-clause-at : goal.returns-in-Err-clause-at
returns-in-Err-clause-at g c =
    lacked-fits g.M.Runner.meaning c.args.engine.now c.give_up.new.engine c.args.seat c.read.new.self c.in-Err.ensures.err c.give_up.ensures.engine
    (work.Running c.args.machine.now) c.requires.turn.at

pub returns-in-Err-clause-done : goal.returns-in-Err-clause-done
returns-in-Err-clause-done g c = λ told.
    lacked g.M.Runner.meaning c.args.engine.now c.args.seat _ c.read.new.self c.give_up.new.engine told _ c.in-Err.ensures.err c.requires.turn.going
    c.give_up.ensures.halts c.give_up.ensures.engine c.give_up.ensures.outcome

pub returns-in-Err-clause-due : goal.returns-in-Err-clause-due
returns-in-Err-clause-due g c =
    let a = c.requires.reads in
    let s = g.M.Runner.meaning.stage c.args.engine.now.code c.args.machine.now in
    lacked-due c.args.engine.now c.args.seat _ _ c.give_up.ensures.outcome
    (IsToTakeMemory.accesses s (wants.Read a.l)
    (accesses-from c.args.engine.now s c.requires.turn.going c.requires.turn.left (wants.Read a.l) a.wants a.outside c.requires.early) refl)
