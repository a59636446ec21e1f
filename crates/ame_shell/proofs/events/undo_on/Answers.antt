use Rattle.std.proofs.Common.{refl}
use Rattle.ame_protocol.specs.Engine.Parts.{task_at, attempt_of}
use Rattle.ame_protocol.specs.Event.Undoing.{reason_to_undo}
use Rattle.ame_engine.proofs.UndoingLemmas.{attempt-in}
use Rattle.ame_engine.proofs.MakesLemmas.{undone-made, gone-made}
use Rattle.ame_shell.proofs.HandLemmas.{undid-fits, home-fits}
use Rattle.ame_shell.specs.Outcomes.{IsOutcomeOf, IsMade}
use Rattle.ame_shell.proofs.events.undo_on.Goals as goal

pub returns-in-More-clause-fits : goal.returns-in-More-clause-fits
returns-in-More-clause-fits g c =
    let a = attempt-in (attempt_of (task_at c.args.engine.now.tasks c.args.seat)) c.requires.can.busy in
    undid-fits g.M.Runner.meaning c.args.engine.now c.undo_one.new.self c.args.seat _ a.0
    (reason_to_undo (task_at c.args.engine.now.tasks c.args.seat)) a.1 (undone-made g.M.Runner.meaning c.args.engine.now c.undo_one.new.self c.args.seat a.0 (c.undo_one.ensures.more a.0 a.1 c.in-More.is))

pub returns-in-More-clause-done : goal.returns-in-More-clause-done
returns-in-More-clause-done g c = λ hand told.
    let a = attempt-in (attempt_of (task_at c.args.engine.now.tasks c.args.seat)) c.requires.can.busy in
    record {
      event = IsMade.makes _ _ (IsOutcomeOf.undid a.0) (c.undo_one.ensures.more a.0 a.1 c.in-More.is);
      quiet = λ _. refl;
    }

pub returns-in-Home-clause-fits : goal.returns-in-Home-clause-fits
returns-in-Home-clause-fits g c =
    let a = attempt-in (attempt_of (task_at c.args.engine.now.tasks c.args.seat)) c.requires.can.busy in
    home-fits g.M.Runner.meaning c.args.engine.now c.undo_one.new.self c.args.seat _ a.0
    (reason_to_undo (task_at c.args.engine.now.tasks c.args.seat)) a.1 (gone-made g.M.Runner.meaning c.args.engine.now c.undo_one.new.self c.args.seat a.0 (c.undo_one.ensures.home a.0 a.1 c.in-Home.is))

pub returns-in-Home-clause-done : goal.returns-in-Home-clause-done
returns-in-Home-clause-done g c = λ hand told.
    let a = attempt-in (attempt_of (task_at c.args.engine.now.tasks c.args.seat)) c.requires.can.busy in
    record {
      event = IsMade.makes _ _ (IsOutcomeOf.went_home a.0) (c.undo_one.ensures.home a.0 a.1 c.in-Home.is);
      quiet = λ _. refl;
    }
