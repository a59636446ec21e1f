use Rattle.std.proofs.Common.{refl, sym, ap, ◌∙◌}
use Rattle.std.specs.Prelude.{is_some}
use Rattle.ame_shell.proofs.HandLemmas.{lacked-fits}
use Rattle.ame_shell.proofs.DoneLemmas.{none-kept, lacked}
use Rattle.ame_shell.proofs.acts.act.Goals as goal

pub returns-then-is_some-clause-done : goal.returns-then-is_some-clause-done
returns-then-is_some-clause-done g c = c.undo_on.ensures.done _ _

pub returns-then-is_some-clause-lacks : goal.returns-then-is_some-clause-lacks
returns-then-is_some-clause-lacks g c = record {
  unready = λ unready going. absurd (let stops = c.if-is_some.ensures ∙ ap is_some c.stopped.ensures in let none = ap is_some going in cc);
  due = λ _. c.undo_on.ensures.due _;
}

pub returns-then-not-is_ready-clause-done : goal.returns-then-not-is_ready-clause-done
returns-then-not-is_ready-clause-done g c =
    lacked g.M.Runner.meaning c.args.engine.now c.args.seat _ c.args.engine.now c.give_up.new.engine _ _ refl
    (none-kept _ (c.if-is_some.ensures ∙ ap is_some c.stopped.ensures)) c.give_up.ensures.halts c.give_up.ensures.engine c.give_up.ensures.outcome

pub returns-then-not-is_ready-clause-lacks : goal.returns-then-not-is_ready-clause-lacks
returns-then-not-is_ready-clause-lacks g c = record {
  unready = λ _ _. c.give_up.ensures.outcome;
  due = λ ready. absurd (c.if-not-is_ready.ensures.no refl ready);
}

pub returns-in-Undoing-clause-done : goal.returns-in-Undoing-clause-done
returns-in-Undoing-clause-done g c = c.undo_on-in-Undoing.ensures.done _ _

pub returns-in-Undoing-clause-lacks : goal.returns-in-Undoing-clause-lacks
returns-in-Undoing-clause-lacks g c = record {
  unready = λ unready going. absurd (unready (c.if-not-is_ready.ensures.yes refl));
  due = λ _. c.undo_on-in-Undoing.ensures.due _;
}

pub returns-then-not-is_ready-clause-fits : goal.returns-then-not-is_ready-clause-fits
returns-then-not-is_ready-clause-fits g c =
    lacked-fits g.M.Runner.meaning c.args.engine.now c.give_up.new.engine c.args.seat c.args.engine.now refl c.give_up.ensures.engine c.args.work.now c.requires.fits

pub returns-else-is_back-clause-fits : goal.returns-else-is_back-clause-fits
returns-else-is_back-clause-fits g c = c.serve-outcome.ensures.at (sym c.if-is_back.ensures)
