use Rattle.sok_book.proofs.Laws.{CommandsKeepTruth-all, MadeBooksAreTrue-all, IsTrueBook-empty}
use Rattle.sok_book.proofs.law.books_are_true.Goals as goal

pub returns-clause-empty : goal.returns-clause-empty
returns-clause-empty c = IsTrueBook-empty

pub returns-clause-kept : goal.returns-clause-kept
returns-clause-kept c = CommandsKeepTruth-all

pub returns-clause-made : goal.returns-clause-made
returns-clause-made c = MadeBooksAreTrue-all
