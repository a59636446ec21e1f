use Rattle.ame_runner.specs.View.{run_of}
use Rattle.ame_runner.proofs.ChooseLemmas.{certified-more, certified-none}
use Rattle.ame_runner.proofs.run.Run.certificates.Goals as goal

pub loop-number-init : goal.loop-number-init
loop-number-init c = certified-none (run_of c.args.self.now) c.new-certificates.result.items c.new-certificates.ensures.items

pub loop-number-preserved : goal.loop-number-preserved
loop-number-preserved c =
    certified-more (run_of c.args.self.now) c.loop-number.number c.loop-number.certificates.items c.certify.new.certificates.items c.loop-number.invariant c.in_ok-certify.ensures

pub returns-clause-fail : goal.returns-clause-fail
returns-clause-fail c = c.loop-number.invariant.fail

pub returns-clause-rise : goal.returns-clause-rise
returns-clause-rise c = c.loop-number.invariant.rise
