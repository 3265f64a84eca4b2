use Rattle.sok_databases.proofs.book_file.BookFileDisk.sync.Goals as goal

pub returns-in-Copy-clause-durable : goal.returns-in-Copy-clause-durable
returns-in-Copy-clause-durable c = rw c.in-Copy.is c.sync-in-Copy.ensures.durable
