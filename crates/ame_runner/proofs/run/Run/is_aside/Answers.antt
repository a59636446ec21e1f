use Rattle.std.proofs.Common.{ap, ◌∙◌}
use Rattle.ame_runner.proofs.run.Run.is_aside.Goals as goal

pub returns : goal.returns
returns c = c.contains.ensures ∙ ap (λ f. f c.args.number) c.aside.ensures
