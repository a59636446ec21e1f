use Rattle.std.proofs.Common.{sym, ◌∙◌}
use Rattle.ame_runner.specs.View.{run_of}
use Rattle.ame_runner.proofs.RunLemmas.{running-ends}
use Rattle.ame_runner.proofs.ChooseLemmas.{stops-tall}
use Rattle.ame_runner.proofs.run.Run.end_tall.Goals as goal

pub returns-then-is_busy-clause-runs : goal.returns-then-is_busy-clause-runs
returns-then-is_busy-clause-runs c = λ running. running-ends (run_of c.run_out.new.self) (c.in_ok-run_out.ensures.runs running)

pub returns-then-grows-clause-runs : goal.returns-then-grows-clause-runs
returns-then-grows-clause-runs c = λ running.
    stops-tall (run_of c.run_out.new.self) c.args.number c.tall_at.result c.run_out.new.self.play.accepted.now.program.source c.in_ok-run_out.ensures.none
    (c.is_busy.ensures c.if-is_busy.false) (sym c.in_ok-grows.ensures ∙ c.if-grows.true) c.tall_at.ensures (c.in_ok-run_out.ensures.runs running)

pub returns-clause-runs : goal.returns-clause-runs
returns-clause-runs c = λ running. running-ends (run_of c.run_out.new.self) (c.in_ok-run_out.ensures.runs running)
