use Rattle.ame_one_run.proofs.CertificateLemmas.{round-trips}
use Rattle.ame_one_run.proofs.theorems.certificates_round_trip.Goals as goal

pub returns : goal.returns
returns c = round-trips
