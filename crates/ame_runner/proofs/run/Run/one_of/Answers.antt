use Rattle.std.proofs.Common.{◌∙◌}
use Rattle.ame_runner.proofs.ChooseLemmas.{somebody-listed}
use Rattle.ame_runner.proofs.run.Run.one_of.Goals as goal

pub returns-clause-some : goal.returns-clause-some
returns-clause-some c = λ none.
    let may = c.in_ok-may.may in
    somebody-listed may.items may.len c.is_empty.result c.is_empty.ensures may.ok.0 c.if-is_empty.false (c.in_ok-may.ensures ∙ none)
