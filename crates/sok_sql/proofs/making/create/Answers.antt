use Rattle.sqlite.specs.Held.{state}
use Rattle.sok_sql.proofs.Calls.{refused_undone, undone_same}
use Rattle.sok_sql.proofs.Changing.{create_commits, create_holds, create_open, create_refuses}
use Rattle.sqlite.proofs.StateLemmas.{survives_weaker}
use Rattle.sok_sql.proofs.Unmade.{create_refused}
use Rattle.sok_sql.proofs.making.create.Goals as goal

pub returns-in-Ok-clause-made : goal.returns-in-Ok-clause-made
returns-in-Ok-clause-made g c clean was =
    let old = state g.S.Store c.args.conn.now in
    let new = state g.S.Store c.execute.new.self in
    let runs = c.in-Ok.ensures.runs clean in
    (create_holds old new c.in-Ok.field-0 runs was, create_open old new c.in-Ok.field-0 runs was)

pub returns-in-Ok-clause-there : goal.returns-in-Ok-clause-there
returns-in-Ok-clause-there g c clean was =
    create_refuses (state g.S.Store c.args.conn.now) (state g.S.Store c.execute.new.self) c.in-Ok.field-0 (c.in-Ok.ensures.runs clean) was

pub returns-in-Err-clause-same : goal.returns-in-Err-clause-same
returns-in-Err-clause-same g c clean settled =
    undone_same (state g.S.Store c.args.conn.now) (state g.S.Store c.execute.new.self) settled
    (refused_undone (state g.S.Store c.args.conn.now) (state g.S.Store c.execute.new.self) _ _ c.in-Err.error (c.in-Err.ensures.runs clean))

pub returns-in-Err-clause-cause : goal.returns-in-Err-clause-cause
returns-in-Err-clause-cause g c clean empty =
    create_refused (state g.S.Store c.args.conn.now) (state g.S.Store c.execute.new.self) c.in-Err.error empty (c.in-Err.ensures.runs clean)

pub returns-in-Ok-clause-stop : goal.returns-in-Ok-clause-stop
returns-in-Ok-clause-stop g c =
    survives_weaker (state g.S.Store c.args.conn.now) (state g.S.Store c.execute.new.self) _ _ (λ _. create_commits (state g.S.Store c.args.conn.now))
    c.execute.ensures.survives

pub returns-in-Err-clause-stop : goal.returns-in-Err-clause-stop
returns-in-Err-clause-stop g c =
    survives_weaker (state g.S.Store c.args.conn.now) (state g.S.Store c.execute.new.self) _ _ (λ _. create_commits (state g.S.Store c.args.conn.now))
    c.execute.ensures.survives
