use Rattle.ame_certified.proofs.EndedLemmas.{ended-low, ended-valid}
use Rattle.ame_certified.proofs.ended.ended_runs_are_judged_valid.Goals as goal

pub returns-clause-low : goal.returns-clause-low
returns-clause-low g c = λ program signature limits base value end ran accepted slice plain low.
    ended-low program signature limits base accepted slice plain value end ran low

pub returns-clause-judged : goal.returns-clause-judged
returns-clause-judged g c = λ program signature limits base value end judged ran accepted slice plain low so.
    ended-valid program signature limits base accepted slice plain value end ran low judged so
