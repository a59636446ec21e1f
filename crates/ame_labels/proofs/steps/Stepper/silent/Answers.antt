use Rattle.std.proofs.Common.{Some, None, map, refl, sym, ◌∙◌}
use Rattle.ame_labels.specs.Steppers.{MakesStep}
use Rattle.ame_labels.proofs.StepperLemmas.{last-step, none-of, told-some}
use Rattle.ame_labels.proofs.steps.Stepper.silent.Goals as goal

pub returns : goal.returns
returns c = λ e.
    last-step c.args.number (map (λ l. l.0) c.args.fresh.now) (map (λ l. l.0) c.in-Some.rest.now) None c.args.self.now c.step.new.self refl
    (told-some (λ (rest : _). MakesStep (Some c.args.number) (map (λ l. l.0) c.args.fresh.now) (map (λ l. l.0) rest.now) c.args.self.now c.step.new.self) c.in_ok-rest.field-0 c.in-Some.rest
    c.in-Some.is c.in_ok-rest.ensures)
    (none-of c.in-Some.rest.now (sym c.is_empty.ensures ∙ e))
