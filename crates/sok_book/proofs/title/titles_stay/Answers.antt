use Rattle.sok_book.proofs.Titles.{kept-are-titles, titles-are-kept}
use Rattle.sok_book.proofs.title.titles_stay.Goals as goal

pub returns-clause-kept : goal.returns-clause-kept
returns-clause-kept c = kept-are-titles

pub returns-clause-same : goal.returns-clause-same
returns-clause-same c = titles-are-kept
