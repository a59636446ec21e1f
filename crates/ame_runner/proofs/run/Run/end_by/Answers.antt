use Rattle.ame_runner.specs.View.{run_of}
use Rattle.ame_runner.proofs.RunLemmas.{running-ends}
use Rattle.ame_runner.proofs.run.Run.end_by.Goals as goal

pub returns-then-is_busy-clause-runs : goal.returns-then-is_busy-clause-runs
returns-then-is_busy-clause-runs c = λ running. running-ends (run_of c.run_out.new.self) (c.in_ok-run_out.ensures.runs running)

pub returns-then-stands_at-clause-stopped : goal.returns-then-stands_at-clause-stopped
returns-then-stands_at-clause-stopped c = record {
  none = c.in_ok-run_out.ensures.none;
  idle = c.is_busy.ensures c.if-is_busy.false;
  cause = c.stands_at.ensures c.if-stands_at.true;
}

pub returns-clause-runs : goal.returns-clause-runs
returns-clause-runs c = λ running. running-ends (run_of c.run_out.new.self) (c.in_ok-run_out.ensures.runs running)
