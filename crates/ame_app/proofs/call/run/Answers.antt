use Rattle.ame_app.specs.Reported.{reported}
use Rattle.ame_app.proofs.CodeLemmas.{some-weaker}
use Rattle.ame_app.proofs.call.run.Goals as goal

pub returns-in-Ok-clause-ran : goal.returns-in-Ok-clause-ran
returns-in-Ok-clause-ran g c =
    some-weaker (reported c.conclude.result).run _ _ (λ run ran. λ call job. ran call c.args.io.ends job c.in-Ok.ensures.made) c.conclude.ensures.ran
