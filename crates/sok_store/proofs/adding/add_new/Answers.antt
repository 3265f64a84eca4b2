use Rattle.std.proofs.Common.{arith, option_map, ◌+◌}
use Rattle.sqlite.specs.Held.{state}
use Rattle.sok_store.proofs.Added.{book_full, page_added, page_not_added, page_uncounted}
use Rattle.sok_store.proofs.Wide.{wide}
use Rattle.sok_store.proofs.adding.add_new.Goals as goal

pub returns-in-Err-clause-runs : goal.returns-in-Err-clause-runs
returns-in-Err-clause-runs g c =
    page_uncounted (state g.S.Store c.args.conn.now) (state g.S.Store c.count.new.conn) c.args.text.now (option_map (λ bytes. bytes.now) c.args.title)
    c.count.ensures.rests c.in-Err.error c.fault_of.result c.fault_of.ensures.outside c.fault_of.ensures.memory c.in-Err.ensures.cause

pub returns-then-count-ge-LEVEL_LIMIT-clause-runs : goal.returns-then-count-ge-LEVEL_LIMIT-clause-runs
returns-then-count-ge-LEVEL_LIMIT-clause-runs g c =
    book_full (state g.S.Store c.args.conn.now) (state g.S.Store c.count.new.conn) c.args.text.now (option_map (λ bytes. bytes.now) c.args.title)
    c.count.ensures.rests c.in-Ok.count c.in-Ok.ensures.count (omega arith)

pub returns-in-Ok-insert-clause-runs : goal.returns-in-Ok-insert-clause-runs
returns-in-Ok-insert-clause-runs g c =
    page_added (state g.S.Store c.args.conn.now) (state g.S.Store c.count.new.conn) c.args.text.now (option_map (λ bytes. bytes.now) c.args.title)
    c.count.ensures.rests c.in-Ok.count c.in-Ok.ensures.count (state g.S.Store c.insert.new.conn) (omega arith) _ _
    (wide c.from.result (c.in-Ok.count + 1) (omega arith) c.from.ensures) c.in-Ok-insert.ensures

pub returns-in-Err-insert-clause-runs : goal.returns-in-Err-insert-clause-runs
returns-in-Err-insert-clause-runs g c =
    let fault = c.fault_of-in-Err-insert in
    page_not_added (state g.S.Store c.args.conn.now) (state g.S.Store c.count.new.conn) c.args.text.now (option_map (λ bytes. bytes.now) c.args.title)
    c.count.ensures.rests c.in-Ok.count c.in-Ok.ensures.count (state g.S.Store c.insert.new.conn) (omega arith) c.in-Err-insert.error
    fault.result fault.ensures.outside fault.ensures.memory c.in-Err-insert.ensures
