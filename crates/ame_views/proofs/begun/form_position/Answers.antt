use Rattle.ame_views.proofs.begun.form_position.Goals as goal

pub returns-in_err-form-clause-hidden : goal.returns-in_err-form-clause-hidden
returns-in_err-form-clause-hidden c = λ e form here starts place placed. absurd (c.async_of.ensures.none c.in_err-form.was form here starts)
