use Rattle.std.proofs.lemmas.Result.{IfErr-weaker, IfOk-weaker}
use Rattle.sqlite.specs.Held.{state}
use Rattle.sok_sql.proofs.Texts.{one_missing, one_plain}
use Rattle.sok_sql.proofs.Answering.{one_answers, query_rests}
use Rattle.sok_sql.proofs.Refused.{one_refused}
use Rattle.sok_sql.proofs.reading.rows_at.Goals as goal

pub returns-clause-rests : goal.returns-clause-rests
returns-clause-rests g c =
    query_rests (λ rows. rows.items) (state g.S.Store c.args.conn.now) (state g.S.Store c.query_all.new.self) _ _ one_plain one_missing c.query_all.ensures.survives
    c.query_all.result c.query_all.ensures.ok c.query_all.ensures.err

pub returns-clause-rows : goal.returns-clause-rows
returns-clause-rows g c clean leaves index holds is =
    IfOk-weaker c.query_all.result _ _ (λ rows. one_answers (state g.S.Store c.args.conn.now) (state g.S.Store c.query_all.new.self) leaves holds c.args.id index is rows.items)
    (rw c.params-to_sql.ensures at (c.query_all.ensures.ok clean))

pub returns-clause-cause : goal.returns-clause-cause
returns-clause-cause g c clean table =
    IfErr-weaker c.query_all.result _ _ (λ e. one_refused (state g.S.Store c.args.conn.now) (state g.S.Store c.query_all.new.self) table e c.args.id)
    (rw c.params-to_sql.ensures at (c.query_all.ensures.err clean))
