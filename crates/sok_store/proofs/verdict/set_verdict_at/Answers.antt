use Rattle.sqlite.specs.Held.{state}
use Rattle.sok_store.proofs.Verdicts.{claim_refused, verdict_set, none_stands}
use Rattle.sok_store.proofs.Running.{refused_runs, unread_runs}
use Rattle.sok_store.proofs.verdict.set_verdict_at.Goals as goal

pub returns-in-Err : goal.returns-in-Err
returns-in-Err g c =
    unread_runs (state g.S.Store c.args.conn.now) (state g.S.Store c.read_record.new.conn) _ _ _ c.args.id c.in-Err.fault c.in-Err.ensures
    (λ book none. none_stands _ _ none)

pub returns-in-Ok-judge_claim : goal.returns-in-Ok-judge_claim
returns-in-Ok-judge_claim g c =
    let judged = c.in-Ok-judge_claim.ensures in
    verdict_set (state g.S.Store c.args.conn.now) (state g.S.Store c.read_record.new.conn) (state g.S.Store c.store_verdict.new.conn) c.args.id c.args.level.now
    c.args.claim c.in-Ok.kept c.requires.true_claim judged.same judged.meets c.in-Ok.ensures c.store_verdict.result
    (rw c.verdict_of.ensures at c.store_verdict.ensures)

pub returns : goal.returns
returns g c =
    let refused = c.in-Err-judge_claim in
    refused_runs (state g.S.Store c.args.conn.now) (state g.S.Store c.read_record.new.conn) _ _ _ c.args.id refused.fault c.in-Ok.kept c.in-Ok.ensures
    (claim_refused c.args.id c.args.level.now c.args.claim c.in-Ok.kept.page refused.fault refused.ensures.refused)
