use Rattle.std.proofs.lemmas.Result.{err_from_is_err_and}
use Rattle.sok_solve.proofs.Solving.{replayed}
use Rattle.sok_solve.proofs.report.solution_text.Goals as goal

pub returns-in_err-marked : goal.returns-in_err-marked
returns-in_err-marked c =
    let p = err_from_is_err_and c.from_residual-in_err-marked.result c.from_residual-in_err-marked.ensures.1 in
    rw (p.1, p.2) (replayed c.args.level.now c.args.dirs.now c.in_err-marked.field-0.0 c.requires c.in_err-marked.ensures)
