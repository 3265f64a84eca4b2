use Rattle.std.proofs.lemmas.Result.{IfErr-weaker, IfOk-weaker}
use Rattle.sqlite.specs.Held.{state}
use Rattle.sok_sql.proofs.Texts.{last_missing, last_plain}
use Rattle.sok_sql.proofs.Answering.{last_answers, query_rests}
use Rattle.sok_sql.proofs.Refused.{last_refused}
use Rattle.sok_sql.proofs.reading.last_rows.Goals as goal

pub returns-clause-rests : goal.returns-clause-rests
returns-clause-rests g c =
    query_rests (λ rows. rows.items) (state g.S.Store c.args.conn.now) (state g.S.Store c.query_all.new.self) _ _ last_plain last_missing c.query_all.ensures.survives
    c.query_all.result c.query_all.ensures.ok c.query_all.ensures.err

pub returns-clause-rows : goal.returns-clause-rows
returns-clause-rows g c clean leaves holds =
    IfOk-weaker c.query_all.result _ _ (λ rows. last_answers (state g.S.Store c.args.conn.now) (state g.S.Store c.query_all.new.self) leaves holds rows.items)
    (c.query_all.ensures.ok clean)

pub returns-clause-cause : goal.returns-clause-cause
returns-clause-cause g c clean table =
    IfErr-weaker c.query_all.result _ _ (λ e. last_refused (state g.S.Store c.args.conn.now) (state g.S.Store c.query_all.new.self) table e)
    (c.query_all.ensures.err clean)
