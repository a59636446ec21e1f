use Rattle.std.proofs.Common.{Option, ap, arith, subst}
use Rattle.std.specs.Prelude.{IfSome}
use Rattle.ame_weak.specs.View.{weak_of}
use Rattle.ame_runner.specs.Trial.{StandsAs, IsDecided}
use Rattle.ame_runner.specs.declared.trial.AttemptEnd.{AttemptEnd}
use Rattle.ame_runner.proofs.TrialLemmas.{trial-more, longer, tried-decided, ended-last}
use Rattle.ame_runner.proofs.trial.try_member.Goals as goal

pub loop-used-preserved : goal.loop-used-preserved
loop-used-preserved c = record {
  is =
      trial-more (weak_of c.args.state.now) c.args.number c.args.above.0 (weak_of c.loop-used.trial.state) c.loop-used.trial.kinds.items c.loop-used.trial.above
      (weak_of c.step.new.self.state) c.step.new.self.kinds.items c.step.new.self.above c.loop-used.invariant.is c.in_ok-step.ensures;
  count =
      let count = c.loop-used.invariant.count in
      let one =
      longer (weak_of c.loop-used.trial.state) c.loop-used.trial.kinds.items c.loop-used.trial.above (weak_of c.step.new.self.state) c.step.new.self.kinds.items
      c.step.new.self.above c.in_ok-step.ensures in
      omega (arith, count, one);
}

pub returns-in-Some : goal.returns-in-Some
returns-in-Some c =
    let found =
    subst (λ (o : Option AttemptEnd). IfSome o (λ outcome. StandsAs outcome (weak_of c.loop-used.trial.state) × IsDecided outcome)) c.in-Some.is c.in_ok-found.ensures in
    tried-decided (weak_of c.args.state.now) c.args.number c.args.above.0 c.args.turns (weak_of c.loop-used.trial.state) c.loop-used.trial.kinds.items c.loop-used.trial.above
    c.end.result c.loop-used.invariant.is (ap (λ v. v.items) c.end.ensures.kinds) c.end.ensures.above (rw c.end.ensures.outcome found.0)
    c.loop-used.used (rw c.end.ensures.outcome found.1) c.loop-used.invariant.count c.loop-used-test.true (rw c.end.ensures.outcome c.end.ensures.turns)

pub returns : goal.returns
returns c =
    ended-last (weak_of c.args.state.now) c.args.number c.args.above.0 c.args.turns (weak_of c.loop-used.trial.state) c.loop-used.trial.kinds.items c.loop-used.trial.above
    c.end_at_last.result c.loop-used.invariant.is
    (let count = c.loop-used.invariant.count in let past = c.loop-used-test.false in let some = c.requires in let end = c.loop-used.auto.used-end (omega (arith, some)) in omega (arith, count, past, end))
    c.end_at_last.ensures
