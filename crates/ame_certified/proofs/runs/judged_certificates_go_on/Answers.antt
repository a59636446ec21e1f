use Rattle.ame_certified.proofs.RunLemmas.{run-valid}
use Rattle.ame_certified.proofs.runs.judged_certificates_go_on.Goals as goal

pub returns : goal.returns
returns c = λ s end events output judged leads sound run goes so. run-valid s end events judged sound run goes leads.low so
