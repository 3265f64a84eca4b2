use Rattle.sok_store.proofs.book.Book.add.Goals as goal

pub returns-clause-added : goal.returns-clause-added
returns-clause-added g c = rw (← c.self.view_is) c.add_to.ensures.runs.done

pub returns-clause-refused : goal.returns-clause-refused
returns-clause-refused g c = rw (← c.self.view_is) c.add_to.ensures.runs.refused

pub returns-clause-cause : goal.returns-clause-cause
returns-clause-cause g c = rw (← c.self.view_is) c.add_to.ensures.runs.cause

pub returns-clause-stop : goal.returns-clause-stop
returns-clause-stop g c = rw (← c.self.view_is) c.add_to.ensures.runs.stop
