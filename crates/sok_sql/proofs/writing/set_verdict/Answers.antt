use Rattle.sqlite.specs.Held.{state}
use Rattle.sok_sql.proofs.Statements.{verdict_update, row_not_updated, row_updated}
use Rattle.sok_sql.proofs.writing.set_verdict.Goals as goal

pub returns-in-Ok : goal.returns-in-Ok
returns-in-Ok g c =
    row_updated (verdict_update c.args.id c.args.verdict) c.ranges.id.fits (state g.S.Store c.args.conn.now) (state g.S.Store c.execute.new.self)
    (rw (c.params-to_sql.ensures, c.params-to_sql-2.ensures) at c.execute.ensures.survives) _ c.in-Ok.field-0
    (λ clean. rw (c.params-to_sql.ensures, c.params-to_sql-2.ensures) at (c.in-Ok.ensures.runs clean))

pub returns-in-Err : goal.returns-in-Err
returns-in-Err g c =
    row_not_updated (verdict_update c.args.id c.args.verdict) c.ranges.id.fits (state g.S.Store c.args.conn.now) (state g.S.Store c.execute.new.self)
    (rw (c.params-to_sql.ensures, c.params-to_sql-2.ensures) at c.execute.ensures.survives) c.in-Err.error
    (λ clean. rw (c.params-to_sql.ensures, c.params-to_sql-2.ensures) at (c.in-Err.ensures.runs clean))
