use Rattle.std.proofs.Common.{refl}
use Rattle.ame_protocol.specs.Event.Event.{Find}
use Rattle.ame_engine.proofs.MakesLemmas.{stale-made}
use Rattle.ame_shell.proofs.CheckLemmas.{check-on}
use Rattle.ame_shell.proofs.HandLemmas.{running, back-fits}
use Rattle.ame_shell.proofs.DoneLemmas.{checks-from}
use Rattle.ame_shell.specs.Outcomes.{IsOutcomeOf, IsMade}
use Rattle.ame_shell.proofs.rows.check_on.Goals as goal

pub returns-in-Valid-clause-at : goal.returns-in-Valid-clause-at
returns-in-Valid-clause-at g c = λ _.
    let a = c.requires.turn.at.on.stands.attempt in
    let m = c.args.machine.now in
    let task = running g.M.Runner.meaning c.args.engine.now c.args.engine.now c.args.seat m c.requires.turn.at c.requires.outside in
    check-on g.M.Runner.meaning c.args.engine.now c.check.new.self c.args.seat m c.checked.new.self a c.requires.turn.at task
    (c.check.ensures.valid a task c.in-Valid.is) (c.checked.ensures.machine c.args.engine.now.code c.requires.turn.at.on.machine)
    (c.checked.ensures.stage c.args.engine.now.code)

pub returns-in-Valid-clause-done : goal.returns-in-Valid-clause-done
returns-in-Valid-clause-done g c = λ told.
    let a = c.requires.turn.at.on.stands.attempt in
    let s = g.M.Runner.meaning.stage c.args.engine.now.code c.args.machine.now in
    let task = running g.M.Runner.meaning c.args.engine.now c.args.engine.now c.args.seat c.args.machine.now c.requires.turn.at c.requires.outside in
    record {
      event = IsMade.makes _ _
          (IsOutcomeOf.checked s a (checks-from c.args.engine.now s c.requires.turn.going c.requires.turn.left c.requires.outside c.requires.waits c.requires.full))
          (c.check.ensures.valid a task c.in-Valid.is);
      quiet = λ _. refl;
    }

pub returns-in-Invalid-clause-back : goal.returns-in-Invalid-clause-back
returns-in-Invalid-clause-back g c = λ _.
    let a = c.requires.turn.at.on.stands.attempt in
    let task = running g.M.Runner.meaning c.args.engine.now c.args.engine.now c.args.seat c.args.machine.now c.requires.turn.at c.requires.outside in
    back-fits g.M.Runner.meaning c.args.engine.now c.check.new.self c.args.seat _ a task
    (stale-made g.M.Runner.meaning c.args.engine.now c.check.new.self c.args.seat a Find.Check (c.check.ensures.back a _ task c.in-Invalid.is))

pub returns-in-Invalid-clause-done : goal.returns-in-Invalid-clause-done
returns-in-Invalid-clause-done g c = λ told.
    let a = c.requires.turn.at.on.stands.attempt in
    let s = g.M.Runner.meaning.stage c.args.engine.now.code c.args.machine.now in
    let task = running g.M.Runner.meaning c.args.engine.now c.args.engine.now c.args.seat c.args.machine.now c.requires.turn.at c.requires.outside in
    record {
      event = IsMade.makes _ _
          (IsOutcomeOf.found_invalid s a _
          (checks-from c.args.engine.now s c.requires.turn.going c.requires.turn.left c.requires.outside c.requires.waits c.requires.full) (c.check.ensures.bad _ c.in-Invalid.is))
          (c.check.ensures.back a _ task c.in-Invalid.is);
      quiet = λ _. refl;
    }
