use Rattle.std.proofs.lemmas.Result.{IfErr-weaker, IfOk-weaker}
use Rattle.sqlite.specs.Held.{state}
use Rattle.sok_sql.proofs.Texts.{all_missing, all_plain}
use Rattle.sok_sql.proofs.Calls.{shown_open, undone_same, unread_undone}
use Rattle.sok_sql.proofs.Answering.{all_answers, found_rows, none_found, query_rests}
use Rattle.sok_sql.proofs.Refused.{all_refused, missing_open, missing_refused}
use Rattle.sok_sql.proofs.reading.all_rows.Goals as goal

pub returns-clause-rests : goal.returns-clause-rests
returns-clause-rests g c =
    query_rests (λ rows. rows.items) (state g.S.Store c.args.conn.now) (state g.S.Store c.query_all.new.self) _ _ all_plain all_missing c.query_all.ensures.survives
    c.query_all.result c.query_all.ensures.ok c.query_all.ensures.err

pub returns-clause-rows : goal.returns-clause-rows
returns-clause-rows g c clean leaves holds =
    IfOk-weaker c.query_all.result _ _ (λ rows. all_answers (state g.S.Store c.args.conn.now) (state g.S.Store c.query_all.new.self) leaves holds rows.items)
    (c.query_all.ensures.ok clean)

pub returns-clause-found : goal.returns-clause-found
returns-clause-found g c clean settled has =
    IfOk-weaker c.query_all.result _ _ (λ rows. found_rows (state g.S.Store c.args.conn.now) (state g.S.Store c.query_all.new.self) settled rows.items has)
    (c.query_all.ensures.ok clean)

pub returns-clause-none : goal.returns-clause-none
returns-clause-none g c clean has =
    IfOk-weaker c.query_all.result _ _ (λ rows. none_found (state g.S.Store c.args.conn.now) (state g.S.Store c.query_all.new.self) rows.items has)
    (c.query_all.ensures.ok clean)

pub returns-clause-same : goal.returns-clause-same
returns-clause-same g c clean settled =
    let old = state g.S.Store c.args.conn.now in
    let new = state g.S.Store c.query_all.new.self in
    IfErr-weaker c.query_all.result _ _ (λ e h. undone_same old new settled (unread_undone old new _ _ e h))
    (c.query_all.ensures.err clean)

pub returns-clause-cause : goal.returns-clause-cause
returns-clause-cause g c clean table =
    IfErr-weaker c.query_all.result _ _ (λ e. all_refused (state g.S.Store c.args.conn.now) (state g.S.Store c.query_all.new.self) table e)
    (c.query_all.ensures.err clean)

pub returns-clause-open : goal.returns-clause-open
returns-clause-open g c clean =
    let old = state g.S.Store c.args.conn.now in
    let new = state g.S.Store c.query_all.new.self in (
      IfOk-weaker c.query_all.result _ _ (λ rows h. (shown_open old new _ _ rows.items h).1) (c.query_all.ensures.ok clean),
      IfErr-weaker c.query_all.result _ _ (λ e h. missing_open old new _ _ e h) (c.query_all.ensures.err clean),
    )

pub returns-clause-missing : goal.returns-clause-missing
returns-clause-missing g c clean empty =
    IfErr-weaker c.query_all.result _ _ (λ e. missing_refused (state g.S.Store c.args.conn.now) (state g.S.Store c.query_all.new.self) empty e)
    (c.query_all.ensures.err clean)
