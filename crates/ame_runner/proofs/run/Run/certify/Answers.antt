use Rattle.std.proofs.Common.{refl}
use Rattle.ame_term.specs.View.{tree_of}
use Rattle.ame_weak.specs.View.{weak_of}
use Rattle.ame_runner.specs.View.{run_of}
use Rattle.ame_runner.proofs.ChooseLemmas.{has-passed, has-certified, absent-so}
use Rattle.ame_runner.proofs.run.Run.certify.Goals as goal

pub returns-then-is_none : goal.returns-then-is_none
returns-then-is_none c =
    has-passed (run_of c.args.self.now) c.args.number _ _ refl
    (absent-so (λ term. tree_of term.now) c.member.result (weak_of c.state.result.now) (run_of c.args.self.now).play.weak c.args.number c.is_none.result c.member.ensures
    c.state.ensures c.is_none.ensures c.if-is_none.true)

pub returns : goal.returns
returns c =
    has-certified (run_of c.args.self.now) c.args.number _ _ c.in_ok-certificate.certificate c.in_ok-push.ensures.ok c.in_ok-certificate.ensures.number
    c.in_ok-certificate.ensures.fails
