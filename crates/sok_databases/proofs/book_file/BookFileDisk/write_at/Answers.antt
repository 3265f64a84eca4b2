use Rattle.sok_databases.proofs.book_file.BookFileDisk.write_at.Goals as goal

pub returns-in-Machine-clause-mixed : goal.returns-in-Machine-clause-mixed
returns-in-Machine-clause-mixed c = rw c.in-Machine.is c.write_at.ensures.mixed
