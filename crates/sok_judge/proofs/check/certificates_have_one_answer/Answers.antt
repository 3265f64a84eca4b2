use Rattle.sok_engine.proofs.Unique.{Within-one}
use Rattle.sok_judge.proofs.OneCheck.{IsCheck-one}
use Rattle.sok_judge.proofs.check.certificates_have_one_answer.Goals as goal

pub returns : goal.returns
returns c limit most n bytes text = Within-one limit _ (λ input. IsCheck-one most n text input) bytes
