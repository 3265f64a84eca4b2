use Rattle.sok_board.proofs.OneRefusal.{IsAcceptable-accepted}
use Rattle.sok_store.proofs.Added.{board_refused}
use Rattle.sok_store.proofs.adding.judge_level.Goals as goal

pub returns-in-Ok-clause-accepted : goal.returns-in-Ok-clause-accepted
returns-in-Ok-clause-accepted c = IsAcceptable-accepted c.args.level.now c.in-Ok._board c.in-Ok.ensures.rows c.in-Ok.ensures.accepted

pub returns-in-Err-clause-refused : goal.returns-in-Err-clause-refused
returns-in-Err-clause-refused c book =
    rw c.from.ensures (board_refused book c.args.level.now c.in-Err.fault c.in-Err.ensures.refused)
