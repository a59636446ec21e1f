use Rattle.std.proofs.Common.{None, arith, refl, ◌∙◌}
use Rattle.std.proofs.lemmas.Grind.{common_steps}
use Rattle.ame_runner.specs.View.{run_of}
use Rattle.ame_runner.proofs.RunLemmas.{frame-then}
use Rattle.ame_runner.proofs.HearLemmas.{hears-still, hears-then}
use Rattle.ame_runner.specs.Drawing.{RunsOn}
use Rattle.ame_runner.proofs.run.Run.run_out.Goals as goal

pub loop-alloc-init : goal.loop-alloc-init
loop-alloc-init c = record {
  frame = record { program = refl; limit = refl };
  counts = record { turns = refl; tries = refl };
  runs = λ running. running;
  runs_on = RunsOn.none;
  hears = λ told. hears-still (run_of c.args.self.now) (run_of c.args.self.now) told refl;
}

pub loop-alloc-preserved : goal.loop-alloc-preserved
loop-alloc-preserved c = record {
  frame = frame-then _ (run_of c.loop-alloc.self) _ c.loop-alloc.invariant.frame c.go_on.ensures.frame;
  counts = record { turns = c.in_ok-go_on.ensures.counts.turns ∙ c.loop-alloc.invariant.counts.turns; tries = c.in_ok-go_on.ensures.counts.tries ∙ c.loop-alloc.invariant.counts.tries };
  runs = λ running. c.in_ok-go_on.ensures.runs (c.loop-alloc.invariant.runs running);
  runs_on = RunsOn.more (run_of c.loop-alloc.self) (run_of c.go_on.new.self) c.loop-alloc.invariant.runs_on c.in_ok-go_on.ensures.goes;
  hears = λ told.
      hears-then None (run_of c.args.self.now) (run_of c.loop-alloc.self) (run_of c.go_on.new.self) told told told
      (c.loop-alloc.invariant.hears told) c.loop-alloc.invariant.runs (c.in_ok-go_on.ensures.hears told);
}

pub returns-in_err-go_on-clause-frame : goal.returns-in_err-go_on-clause-frame
returns-in_err-go_on-clause-frame c = frame-then _ (run_of c.loop-alloc.self) _ c.loop-alloc.invariant.frame c.go_on.ensures.frame

pub returns-clause-out : goal.returns-clause-out
returns-clause-out c = record { runs = c.loop-alloc.invariant.runs_on; none = grind (arith, common_steps) }
