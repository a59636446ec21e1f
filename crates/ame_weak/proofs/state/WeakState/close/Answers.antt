use Rattle.std.proofs.Common.{Option, sym, ◌∙◌, refl, subst}
use Rattle.ame_term.specs.State.{closed}
use Rattle.ame_strong.specs.View.{state_of}
use Rattle.ame_weak.specs.Weak.{Weak, moved}
use Rattle.ame_weak.specs.Answer.{GoesOrStays}
use Rattle.ame_weak.specs.View.{weak_of}
use Rattle.ame_weak.proofs.LabelLemmas.{moves-or-stays, close-not, close-may}
use Rattle.ame_weak.proofs.state.WeakState.close.Goals as goal

pub returns-then-not-is_resting : goal.returns-then-not-is_resting
returns-then-not-is_resting c =
    (close-not (weak_of c.args.self.now) c.args.number (sym c.is_resting.ensures ∙ c.if-not-is_resting.true), refl)

pub returns : goal.returns
returns c =
    let w : Weak = weak_of c.args.self.now in
    let t = state_of c.close_member.new.self in
    subst (λ (o : Option Weak). GoesOrStays o w (moved w t) c.close_member.result)
    (sym (close-may w c.args.number (sym c.is_resting.ensures ∙ c.if-not-is_resting.false)))
    (moves-or-stays (closed c.args.number w.state) w t c.close_member.result c.close_member.ensures)
