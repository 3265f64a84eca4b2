use Rattle.std.proofs.Common.{List, subst}
use Rattle.sok_cert.specs.Entry.{Entry}
use Rattle.sok_rules.specs.Squares.{Rows}
use Rattle.sok_search.specs.Findings.{IsFindingWithProof}
use Rattle.sok_search.proofs.Refusing.{good-within, handed-on, no-answer, told-also, told-answer, told-memory}
use Rattle.sok_search.proofs.solve.search_into.Goals as goal

pub returns-in_err-board : goal.returns-in_err-board
returns-in_err-board g c =
    let told = told-also _ _ c.args.level.now c.args.limit _ c.in_err-board.ensures.tells in
    record {
      finding = no-answer _ _ c.from_residual.result c.from_residual.ensures.1;
      tells = handed-on _ _ _ c.from_residual.result c.from_residual.ensures.1 told;
    }

pub returns-in_err-finding : goal.returns-in_err-finding
returns-in_err-finding g c =
    let error = c.from_residual-in_err-finding.ensures.1 in
    let told = told-memory _ c.args.level.now c.args.limit (good-within c.args.level.now c.args.limit c.in_ok-board.board c.in_ok-board.ensures.board) in
    record {
      finding = no-answer _ _ c.from_residual-in_err-finding.result error;
      tells = handed-on _ _ _ c.from_residual-in_err-finding.result error told;
    }

pub returns : goal.returns
returns g c =
    let within = c.in_ok-board.ensures.board in
    let Took : List Entry → Type 0 = λ taken. g.C.Entries.took taken c.answer.new.entries in
    record {
      finding = subst (λ (level : Rows). IsFindingWithProof Took level c.args.limit c.args.bound c.args.upper c.in_ok-finding.finding) within.rows_are c.in_ok-finding.ensures;
      tells = told-answer c.args.level.now c.args.limit c.in_ok-board.board c.in_ok-finding.finding within;
    }
