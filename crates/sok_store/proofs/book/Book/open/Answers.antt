use Rattle.std.proofs.Common.{IsTrue, not, ap, ◌∙◌}
use Rattle.sqlite.specs.Held.{state}
use Rattle.sok_sql.specs.Connections.{IsSettled}
use Rattle.sok_store.proofs.book.Book.open.Given as given
use Rattle.sok_store.proofs.book.Book.open.Goals as goal
use Rattle.sok_store.proofs.book.Book.open.Goals.{After-prepare}

-- a connection outside a transaction is settled
settled : (g : given.Over) (c : After-prepare g) → IsSettled (state g.S.Store c.args.connection)
settled g c = λ up.
    let auto : IsTrue c.is_autocommit-autocommit.result = c.is_autocommit-autocommit.ensures.value ∙ ap not c.requires in
    (c.is_autocommit-autocommit.ensures.settled auto up, c.requires)

pub returns-in-Ok-clause-opens : goal.returns-in-Ok-clause-opens
returns-in-Ok-clause-opens g c = λ clean. c.in-Ok.ensures.opens clean (settled g (goal.at.returns-in-Ok-clause-opens g c).After-prepare)

pub returns-in-Ok-clause-stop : goal.returns-in-Ok-clause-stop
returns-in-Ok-clause-stop g c = c.in-Ok.ensures.stop (settled g (goal.at.returns-in-Ok-clause-stop g c).After-prepare)

pub returns-in-Err-clause-unopened : goal.returns-in-Err-clause-unopened
returns-in-Err-clause-unopened g c = c.in-Err.ensures.unopened (settled g (goal.at.returns-in-Err-clause-unopened g c).After-prepare)

pub returns-in-Err-clause-same : goal.returns-in-Err-clause-same
returns-in-Err-clause-same g c = λ clean. c.in-Err.ensures.same clean (settled g (goal.at.returns-in-Err-clause-same g c).After-prepare)

pub returns-in-Err-clause-stop : goal.returns-in-Err-clause-stop
returns-in-Err-clause-stop g c = c.in-Err.ensures.stop (settled g (goal.at.returns-in-Err-clause-stop g c).After-prepare)

pub returns-in-Err-clause-cause : goal.returns-in-Err-clause-cause
returns-in-Err-clause-cause g c = c.in-Err.ensures.cause (settled g (goal.at.returns-in-Err-clause-cause g c).After-prepare)
