use Rattle.sok_databases.proofs.book_file.BookFileDisk.read_at.Goals as goal

pub returns-in-Machine-clause-read : goal.returns-in-Machine-clause-read
returns-in-Machine-clause-read c = rw c.in-Machine.is c.read_at.ensures.read
