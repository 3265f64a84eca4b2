use Rattle.sok_store.proofs.Laws.{bad-rows-have-no-book, one-row-is-first-bad, rows-have-one-book}
use Rattle.sok_store.proofs.law.rows_have_one_book.Goals as goal

pub returns-clause-one : goal.returns-clause-one
returns-clause-one c = rows-have-one-book

pub returns-clause-none : goal.returns-clause-none
returns-clause-none c = bad-rows-have-no-book

pub returns-clause-first : goal.returns-clause-first
returns-clause-first c = one-row-is-first-bad
