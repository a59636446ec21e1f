use Rattle.ame_app.proofs.ResumeLemmas.{near-where}
use Rattle.ame_app.proofs.verbs.resume.engine_on.Goals as goal

pub returns-clause-near : goal.returns-clause-near
returns-clause-near c = near-where c.resume.result c.args.base.entries c.resume.ensures.far
