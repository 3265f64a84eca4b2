use Rattle.std.proofs.Common.{subst}
use Rattle.std.proofs.lemmas.Result.{MatchResult-weaker}
use Rattle.sok_search.specs.Findings.{IsFinding}
use Rattle.sok_solve.specs.Solves.{TellsFound}
use Rattle.sok_solve.proofs.Solving.{has_solution, refused_answer, told_answer}
use Rattle.sok_solve.proofs.find.answer.Goals as goal

pub report-requires : goal.report-requires
report-requires c = has_solution c.args.level.now c.args.task.now.limit _ c.in-Ok.found c.in-Ok.ensures.finding

pub returns-in-Ok : goal.returns-in-Ok
returns-in-Ok c =
    let found = subst (λ best. IsFinding c.args.level.now c.args.task.now.limit best c.in-Ok.found) c.best.ensures c.in-Ok.ensures.finding in
    told_answer (TellsFound c.args.task.now c.args.level.now) c.report.result c.in-Ok.ensures.tells
    (MatchResult-weaker c.report.result c.report.ensures (λ told is. record { found = c.in-Ok.found; is = found; answer_is = is }) (λ fault is. is))

pub returns-in-Err : goal.returns-in-Err
returns-in-Err c = refused_answer (TellsFound c.args.task.now c.args.level.now) c.tool_fault.result c.in-Err.ensures.tells c.tool_fault.ensures
