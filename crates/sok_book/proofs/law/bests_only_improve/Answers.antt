use Rattle.sok_book.proofs.Laws.{CommandsKeepPages-all}
use Rattle.sok_book.proofs.law.bests_only_improve.Goals as goal

pub returns : goal.returns
returns c = CommandsKeepPages-all
