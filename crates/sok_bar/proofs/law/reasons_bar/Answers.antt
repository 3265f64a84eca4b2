use Rattle.sok_bar.proofs.ReasonLaws.{reasons-bar}
use Rattle.sok_bar.proofs.law.reasons_bar.Goals as goal

pub returns : goal.returns
returns c = reasons-bar
