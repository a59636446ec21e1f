use Rattle.ame_theorems.proofs.StraightLemmas.{has-journal, is-run, same-calls, same-states}
use Rattle.ame_theorems.proofs.journals.runs_have_journals.Goals as goal

pub returns-clause-journal : goal.returns-clause-journal
returns-clause-journal c = has-journal

pub returns-clause-calls : goal.returns-clause-calls
returns-clause-calls c = same-calls

pub returns-clause-run : goal.returns-clause-run
returns-clause-run c = is-run

pub returns-clause-states : goal.returns-clause-states
returns-clause-states c = same-states
