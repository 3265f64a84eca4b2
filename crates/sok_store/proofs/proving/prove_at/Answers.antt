use Rattle.sqlite.specs.Held.{state}
use Rattle.sok_store.proofs.Proved.{proof_refused, proof_stored}
use Rattle.sok_store.proofs.Running.{refused_runs, replaced_runs, unread_runs, unreplaced_runs}
use Rattle.sok_store.proofs.proving.prove_at.Goals as goal

pub returns-in-Err : goal.returns-in-Err
returns-in-Err g c =
    unread_runs (state g.S.Store c.args.conn.now) (state g.S.Store c.read_record.new.conn) _ _ _ c.args.id c.in-Err.fault c.in-Err.ensures (λ book none. none)

pub returns-in-Err-judge_record : goal.returns-in-Err-judge_record
returns-in-Err-judge_record g c =
    let refused = c.in-Err-judge_record in
    refused_runs (state g.S.Store c.args.conn.now) (state g.S.Store c.read_record.new.conn) _ _ _ c.args.id refused.fault c.in-Ok.kept c.in-Ok.ensures
    (proof_refused c.args.id c.args.bytes.now c.in-Ok.kept.page refused.fault refused.ensures.refused)

pub returns-in-Ok-store_verdict : goal.returns-in-Ok-store_verdict
returns-in-Ok-store_verdict g c =
    let shown = c.in-Ok-judge_record in
    replaced_runs (proof_stored c.args.id c.args.bytes.now c.in-Ok.kept.page shown.claim shown.ensures.certificate shown.ensures.meets)
    (state g.S.Store c.args.conn.now) (state g.S.Store c.read_record.new.conn) (state g.S.Store c.store_verdict.new.conn) c.in-Ok.ensures _ _
    (rw c.verdict_of.ensures at c.in-Ok-store_verdict.ensures)

pub returns : goal.returns
returns g c =
    let shown = c.in-Ok-judge_record in
    unreplaced_runs (proof_stored c.args.id c.args.bytes.now c.in-Ok.kept.page shown.claim shown.ensures.certificate shown.ensures.meets)
    (state g.S.Store c.args.conn.now) (state g.S.Store c.read_record.new.conn) (state g.S.Store c.store_verdict.new.conn) c.in-Ok.ensures _ _
    (rw c.verdict_of.ensures at c.in-Err-store_verdict.ensures)
