use Rattle.std.proofs.Common.{subst}
use Rattle.sok_rules.specs.Squares.{Rows}
use Rattle.sok_search.specs.Findings.{IsFinding}
use Rattle.sok_search.proofs.Refusing.{good-within, handed-on, no-answer, told-also, told-answer, told-memory}
use Rattle.sok_search.proofs.solve.search.Goals as goal

pub returns-in_err-board : goal.returns-in_err-board
returns-in_err-board c =
    let told = told-also _ _ c.args.level.now c.args.limit _ c.in_err-board.ensures.tells in
    let tells = handed-on _ _ _ c.from_residual.result c.from_residual.ensures.1 told in
    assumption (tells, no-answer (IsFinding c.args.level.now c.args.limit c.args.upper) _ c.from_residual.result c.from_residual.ensures.1)

pub returns-in_err-finding : goal.returns-in_err-finding
returns-in_err-finding c =
    let error = c.from_residual-in_err-finding.ensures.1 in
    let told = told-memory _ c.args.level.now c.args.limit (good-within c.args.level.now c.args.limit c.in_ok-board.board c.in_ok-board.ensures.board) in
    let tells = handed-on _ _ _ c.from_residual-in_err-finding.result error told in
    assumption (tells, no-answer (IsFinding c.args.level.now c.args.limit c.args.upper) _ c.from_residual-in_err-finding.result error)

pub returns : goal.returns
returns c =
    let within = c.in_ok-board.ensures.board in
    let is = subst (λ (level : Rows). IsFinding level c.args.limit c.args.upper c.in_ok-finding.finding) within.rows_are c.in_ok-finding.ensures in
    assumption (is, told-answer c.args.level.now c.args.limit c.in_ok-board.board c.in_ok-finding.finding within)
