use Rattle.std.proofs.Common.{◌^◌, arith}
use Rattle.sqlite.specs.Held.{state}
use Rattle.sok_sql.specs.Leaves.{ids_with}
use Rattle.sok_sql.proofs.Refused.{ids_fit, memory_excused}
use Rattle.sok_sql.proofs.reading.find.Goals as goal

pub returns-in-Ok-clause-cause : goal.returns-in-Ok-clause-cause
returns-in-Ok-clause-cause g c clean leaves holds few =
    let read = c.in-Ok.ensures.rows clean leaves holds in
    memory_excused (state g.S.Store c.args.conn.now) (state g.S.Store c.ids_of.new.conn) c.first_id.result
    (c.first_id.ensures.cause (ids_with c.args.text.now 1 leaves) (rw c.deref.ensures.value read.1) (ids_fit
    c.args.text.now 1 (2 ^ 32) leaves (omega (arith, few))))

pub returns-in-Err-clause-cause : goal.returns-in-Err-clause-cause
returns-in-Err-clause-cause g c clean leaves holds few = c.in-Err.ensures.cause clean (λ up. (holds up).schema)
