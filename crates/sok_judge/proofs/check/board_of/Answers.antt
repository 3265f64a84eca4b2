use Rattle.std.proofs.Common.{subst}
use Rattle.std.proofs.lemmas.Result.{err_from_is_err_and}
use Rattle.sok_text.specs.Collections.{level_at}
use Rattle.sok_engine.specs.Faults.{of_board, of_level}
use Rattle.sok_judge.specs.Boards.{LacksBoard}
use Rattle.sok_judge.proofs.Checking.{no_board, no_level}
use Rattle.sok_judge.proofs.check.board_of.Goals as goal

pub returns-in_err-new : goal.returns-in_err-new
returns-in_err-new c =
    let p = err_from_is_err_and c.from_residual-in_err-new.result c.from_residual-in_err-new.ensures.1 in
    let none = no_board c.in_ok-level.level _ c.in_ok-level.ensures.level c.in_err-new.field-0.0 c.in_err-new.ensures.refused in
    rw (p.1, p.2) (subst (λ blocks. LacksBoard (level_at blocks c.args.n) (of_board c.in_err-new.field-0.0)) c.in_ok-read.ensures none)

pub returns-in_err-level : goal.returns-in_err-level
returns-in_err-level c =
    let p = err_from_is_err_and c.from_residual-in_err-level.result c.from_residual-in_err-level.ensures.1 in
    let none = no_level _ c.in_err-level.field-0.0 c.level-2.result c.in_err-level.was c.level-2.ensures.level in
    rw (p.1, p.2) (subst (λ blocks. LacksBoard (level_at blocks c.args.n) (of_level c.in_err-level.field-0.0)) c.in_ok-read.ensures none)
