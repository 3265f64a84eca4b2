use Rattle.std.proofs.lemmas.Result.{err_from_is_err_and}
use Rattle.sok_tool.proofs.Working.{fileless_too, without_file}
use Rattle.sok_tool.proofs.keeping.book_and_file.Goals as goal

pub returns-in_err-book-clause-refused : goal.returns-in_err-book-clause-refused
returns-in_err-book-clause-refused g c =
    let p = err_from_is_err_and c.from_residual.result c.from_residual.ensures.1 in
    rw (p.1, p.2) (fileless_too _ _ _ c.in_err-book.ensures.refused)

pub returns-in-Err-clause-refused : goal.returns-in-Err-clause-refused
returns-in-Err-clause-refused g c =
    without_file _ _ _ (c.in-Err.ensures.lacks, c.in-Err.ensures.opened) c.in_ok-book.book c.into_connection.result c.in_ok-book.ensures.opens
    c.into_connection.ensures c.close.ensures
