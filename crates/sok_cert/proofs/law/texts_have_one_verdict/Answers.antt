use Rattle.sok_cert.proofs.Verdicts.{IsVerdict-one}
use Rattle.sok_cert.proofs.law.texts_have_one_verdict.Goals as goal

pub returns : goal.returns
returns c = IsVerdict-one
