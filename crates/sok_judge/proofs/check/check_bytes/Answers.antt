use Rattle.std.proofs.Common.{Err, ap, subst}
use Rattle.std.proofs.lemmas.Result.{err_from_is_err_and}
use Rattle.sok_text.specs.Collections.{blocks_of, level_at}
use Rattle.sok_engine.specs.Limits.{cert_limit, input_limit}
use Rattle.sok_engine.proofs.Answering.{Writes-unread}
use Rattle.sok_judge.specs.Boards.{IsBoardOf, LacksBoard}
use Rattle.sok_judge.specs.Checks.{IsCheckOf}
use Rattle.sok_judge.proofs.Checking.{Writes-judged, Writes-no_board}
use Rattle.sok_judge.proofs.check.check_bytes.Goals as goal

pub returns-in_err-bytes-clause-writes : goal.returns-in_err-bytes-clause-writes
returns-in_err-bytes-clause-writes g c =
    let p = err_from_is_err_and c.from_residual.result c.from_residual.ensures.1 in
    rw (p.1, p.2)
    (Writes-unread input_limit (IsCheckOf cert_limit c.args.n (g.C.Read.remaining c.args.cert_input.now)) _ _ c.in_err-bytes.field-0.0
    (λ same. c.in_err-bytes.ensures.much (ap Err same)))

pub returns-in_err-board-clause-writes : goal.returns-in_err-board-clause-writes
returns-in_err-board-clause-writes g c =
    let p = err_from_is_err_and c.from_residual-in_err-board.result c.from_residual-in_err-board.ensures.1 in
    let read = c.in_ok-bytes.bytes.items in
    let none = subst (λ bytes. LacksBoard (level_at (blocks_of bytes) c.args.n) c.in_err-board.field-0.0) c.as_slice.ensures.value c.in_err-board.ensures in
    rw (p.1, p.2)
    (Writes-no_board input_limit cert_limit c.args.n _ _ _ read c.in_err-board.field-0.0 c.in_ok-bytes.ensures.all c.in_ok-bytes.ensures.within none)

pub returns-clause-writes : goal.returns-clause-writes
returns-clause-writes g c =
    let read = c.in_ok-bytes.bytes.items in
    let board = subst (λ bytes. IsBoardOf (level_at (blocks_of bytes) c.args.n) c.in_ok-board.board) c.as_slice.ensures.value c.in_ok-board.ensures in
    Writes-judged input_limit cert_limit c.args.n _ _ _ _ read c.in_ok-board.board c.judge_input.result
    c.in_ok-bytes.ensures.all c.in_ok-bytes.ensures.within board c.judge_input.ensures
