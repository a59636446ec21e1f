use Rattle.std.proofs.Common.{refl}
use Rattle.ame_term.specs.View.{tree_of}
use Rattle.ame_runner.specs.View.{run_of}
use Rattle.ame_runner.proofs.RunLemmas.{running-begun}
use Rattle.ame_runner.proofs.run.Run.start.Goals as goal

pub returns-clause-runs : goal.returns-clause-runs
returns-clause-runs c =
    running-begun (run_of (record { play = c.in_ok-start.field-0; notes = c.new.result; left = c.new-2.result; above = 0; turns = 0; limit = c.args.limit }))
    (tree_of c.args.accepted.now.program.term) c.in_ok-start.ensures.played c.in_ok-start.ensures.begins c.new.ensures.tries c.new-2.ensures.items refl refl

pub returns-clause-begins : goal.returns-clause-begins
returns-clause-begins c = record {
  play = c.in_ok-start.ensures.begins;
  tries = c.new.ensures.tries;
  left = c.new-2.ensures.items;
  aside = c.new.ensures.aside;
  above = refl;
  turns = refl;
  limit = refl;
}
