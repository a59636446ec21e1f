use Rattle.ame_protocol.proofs.Waits.CertificateLemmas.{waiting-certificate, blocked-certificate, blocked-certificates}
use Rattle.ame_protocol.proofs.theorems.waiting_members_have_certificates.Goals as goal

pub returns-clause-waiting : goal.returns-clause-waiting
returns-clause-waiting c = λ parts s number watched a e. waiting-certificate parts s a number watched e

pub returns-clause-parked : goal.returns-clause-parked
returns-clause-parked c = λ parts s number member a e found. blocked-certificate parts s a e number member found

pub returns-clause-all : goal.returns-clause-all
returns-clause-all c = λ parts s a e rising. blocked-certificates parts s a e rising
