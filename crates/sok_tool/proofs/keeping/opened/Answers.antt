use Rattle.std.proofs.Common.{refl, rules}
use Rattle.sok_tool.specs.Databases.{bookless, busy}
use Rattle.sok_tool.proofs.keeping.opened.Goals as goal

pub returns-in-Ok-clause-opens : goal.returns-in-Ok-clause-opens
returns-in-Ok-clause-opens g c = λ access kept. (c.args.connection, kept, c.in-Ok.ensures.opens)

pub returns-in-Err-clause-refused : goal.returns-in-Err-clause-refused
returns-in-Err-clause-refused g c = λ access kept.
    let refused = c.in-Err.refused in
    bookless c.args.connection refused.connection kept c.refuse.ensures (
      refused.fault,
      c.from.ensures,
      c.in-Err.ensures.unopened,
      c.in-Err.ensures.same,
      c.in-Err.ensures.cause,
    )

pub returns-then-not-is_autocommit-clause-refused : goal.returns-then-not-is_autocommit-clause-refused
returns-then-not-is_autocommit-clause-refused g c = λ access kept. busy c.args.connection kept c.close.ensures (search rules) refl
