use Rattle.sqlite.specs.Held.{state}
use Rattle.sok_store.proofs.Found.{row_misses, row_reads, row_unread}
use Rattle.sok_store.proofs.reading.read_record.Goals as goal

pub returns-in-Ok-Some : goal.returns-in-Ok-Some
returns-in-Ok-Some g c =
    row_reads (state g.S.Store c.args.conn.now) (state g.S.Store c.row_at.new.conn) c.args.id c.requires c.row_at.ensures.rests c.in-Ok-Some.row
    (rw c.in-Ok-Some.field-0-is at c.in-Ok-Some.ensures.row) c.record_in.result c.record_in.ensures.read c.record_in.ensures.broken

pub returns-in-Ok-None : goal.returns-in-Ok-None
returns-in-Ok-None g c =
    row_misses (state g.S.Store c.args.conn.now) (state g.S.Store c.row_at.new.conn) c.args.id c.requires c.row_at.ensures.rests
    (rw c.in-Ok-None.field-0-is at c.in-Ok-None.ensures.row)

pub returns-in-Err : goal.returns-in-Err
returns-in-Err g c =
    row_unread (state g.S.Store c.args.conn.now) (state g.S.Store c.row_at.new.conn) c.args.id c.requires c.row_at.ensures.rests c.in-Err.error
    c.fault_of.result c.fault_of.ensures.outside c.fault_of.ensures.memory c.in-Err.ensures.cause
