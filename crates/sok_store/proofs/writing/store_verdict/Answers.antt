use Rattle.sqlite.specs.Held.{state}
use Rattle.sok_sql.specs.Leaves.{leaf_with_verdict}
use Rattle.sok_store.specs.Rows.{verdict_number}
use Rattle.sok_store.specs.Changing.{HasVerdict}
use Rattle.sok_store.proofs.Setting.{page_set, page_unset, verdict_changed}
use Rattle.sok_store.proofs.writing.store_verdict.Goals as goal

pub returns-in-Ok : goal.returns-in-Ok
returns-in-Ok g c =
    let verdict = c.args.verdict in
    page_set (state g.S.Store c.args.conn.now) (state g.S.Store c.set_verdict.new.conn) c.args.id (leaf_with_verdict (verdict_number verdict))
    (HasVerdict verdict) (verdict_changed verdict) _ _ (rw c.verdict_number.ensures at c.in-Ok.ensures)

pub returns-in-Err : goal.returns-in-Err
returns-in-Err g c =
    let verdict = c.args.verdict in
    page_unset (state g.S.Store c.args.conn.now) (state g.S.Store c.set_verdict.new.conn) c.args.id (leaf_with_verdict (verdict_number verdict))
    (HasVerdict verdict) (verdict_changed verdict) c.in-Err.error c.fault_of.result c.fault_of.ensures.outside c.fault_of.ensures.memory
    (rw c.verdict_number.ensures at c.in-Err.ensures)
