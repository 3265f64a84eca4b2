use Rattle.sok_store.proofs.book.Book.list.Goals as goal

pub returns-clause-refused : goal.returns-clause-refused
returns-clause-refused g c = rw (← c.self.view_is) c.records_in.ensures.refused
