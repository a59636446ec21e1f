use Rattle.ame_laws.proofs.Followed.{begins, runs, program_runs}
use Rattle.ame_laws.proofs.theorems.runs_follow_the_rules.Goals as goal

pub returns-clause-begins : goal.returns-clause-begins
returns-clause-begins c = begins

pub returns-clause-runs : goal.returns-clause-runs
returns-clause-runs c = runs

pub returns-clause-of_programs : goal.returns-clause-of_programs
returns-clause-of_programs c = program_runs
