use Rattle.sok_book.proofs.export.push_solution.Goals as goal

pub returns-in_ok-push_unsolvable-in-None : goal.returns-in_ok-push_unsolvable-in-None
returns-in_ok-push_unsolvable-in-None c = rw c.in-None.is (c.in_ok-push_unsolvable-in-None.ensures c.args.level.now)
