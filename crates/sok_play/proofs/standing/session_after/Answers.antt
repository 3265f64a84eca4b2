use Rattle.std.proofs.lemmas.Result.{err_from_is_err_and}
use Rattle.sok_play.proofs.Playing.{fault_after}
use Rattle.sok_play.proofs.standing.session_after.Goals as goal

pub returns-in_err-step : goal.returns-in_err-step
returns-in_err-step c =
    let p = err_from_is_err_and c.from_residual-in_err-step.result c.from_residual-in_err-step.ensures.1 in
    rw (p.1, p.2) (fault_after c.args.level.now c.args.letters.now c.loop-dir.dir-index _ c.loop-dir.session c.step.new.self c.in_err-step.field-0.0
    c.loop-dir-test.true c.requires c.loop-dir.invariant c.in_err-step.ensures)
