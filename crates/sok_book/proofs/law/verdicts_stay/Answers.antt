use Rattle.sok_book.proofs.Laws.{VerdictsStay-all}
use Rattle.sok_book.proofs.law.verdicts_stay.Goals as goal

pub returns : goal.returns
returns c = VerdictsStay-all
