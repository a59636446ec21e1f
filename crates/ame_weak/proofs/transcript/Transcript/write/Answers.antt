use Rattle.std.proofs.Common.{sym, subst, OnOk}
use Rattle.ame_term.specs.declared.semantics.Label.{Label}
use Rattle.ame_weak.specs.Straightened.{Writes}
use Rattle.ame_weak.proofs.transcript.Transcript.write.Goals as goal

pub returns-in-Activate : goal.returns-in-Activate
returns-in-Activate c = subst (λ (l : Label). Writes l c.args.self.now c.begin.new.self) (sym c.in-Activate.is) c.begin.ensures

pub returns-in-Step : goal.returns-in-Step
returns-in-Step c = subst (λ (l : Label). OnOk c.step.result (Writes l c.args.self.now c.step.new.self)) (sym c.in-Step.is) c.step.ensures

pub returns-in-Leave : goal.returns-in-Leave
returns-in-Leave c = subst (λ (l : Label). OnOk c.leave.result (Writes l c.args.self.now c.leave.new.self)) (sym c.in-Leave.is) c.leave.ensures

pub returns-in-End : goal.returns-in-End
returns-in-End c = subst (λ (l : Label). OnOk c.ran.result (Writes l c.args.self.now c.ran.new.self)) (sym c.in-End.is) c.ran.ensures
