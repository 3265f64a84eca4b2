use Rattle.std.proofs.Common.{string_bytes}
use Rattle.sqlite.specs.Held.{state}
use Rattle.sok_sql.specs.Leaves.{leaf_with_best}
use Rattle.sok_store.specs.Changing.{HasBest}
use Rattle.sok_store.proofs.Setting.{best_changed, page_set, page_unset}
use Rattle.sok_store.proofs.writing.store_best.Goals as goal

pub returns-in-Ok : goal.returns-in-Ok
returns-in-Ok g c =
    let best = c.args.best.now in
    page_set (state g.S.Store c.args.conn.now) (state g.S.Store c.set_best.new.conn) c.args.id (leaf_with_best (string_bytes best.lurd) best.pushes best.moves)
    (HasBest best) (best_changed best) _ _ (rw c.as_str.ensures.value at c.in-Ok.ensures)

pub returns-in-Err : goal.returns-in-Err
returns-in-Err g c =
    let best = c.args.best.now in
    page_unset (state g.S.Store c.args.conn.now) (state g.S.Store c.set_best.new.conn) c.args.id (leaf_with_best (string_bytes best.lurd) best.pushes best.moves)
    (HasBest best) (best_changed best) c.in-Err.error c.fault_of.result c.fault_of.ensures.outside c.fault_of.ensures.memory
    (rw c.as_str.ensures.value at c.in-Err.ensures)
