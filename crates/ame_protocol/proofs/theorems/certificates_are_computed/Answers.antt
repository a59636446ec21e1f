use Rattle.ame_protocol.proofs.Waits.CertificateLemmas.{certificate-computed}
use Rattle.ame_protocol.proofs.theorems.certificates_are_computed.Goals as goal

pub returns : goal.returns
returns c = certificate-computed
