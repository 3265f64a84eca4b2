use Rattle.sok_cert.proofs.ClosedLaws.{ShowsClaims-accepted}
use Rattle.sok_cert.proofs.law.closed_certificates_are_true.Goals as goal

pub returns : goal.returns
returns c = ShowsClaims-accepted
