use Rattle.std.proofs.Common.{sym, ◌∙◌}
use Rattle.ame_runner.proofs.ChooseLemmas.{nobody-listed, somebody-listed}
use Rattle.ame_runner.proofs.run.Run.is_stuck.Goals as goal

pub returns-clause-yes : goal.returns-clause-yes
returns-clause-yes c = λ is.
    let may = c.in_ok-may.may in
    sym c.in_ok-may.ensures ∙ nobody-listed may.items may.len c.is_empty.result c.is_empty.ensures may.ok.0 is

pub returns-clause-no : goal.returns-clause-no
returns-clause-no c = λ is none.
    let may = c.in_ok-may.may in
    somebody-listed may.items may.len c.is_empty.result c.is_empty.ensures may.ok.0 is (c.in_ok-may.ensures ∙ none)
