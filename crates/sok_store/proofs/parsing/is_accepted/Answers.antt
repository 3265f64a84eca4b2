use Rattle.std.proofs.Common.{true≢false, sym}
use Rattle.sok_board.proofs.OneRefusal.{IsRefused-acceptable}
use Rattle.sok_store.proofs.parsing.is_accepted.Goals as goal

pub returns-in_default : goal.returns-in_default
returns-in_default c = (
  λ yes. absurd (true≢false (sym yes)),
  λ accepted. absurd (IsRefused-acceptable c.args.level.now c.in-Err.fault c.in_default.not-Memory c.in-Err.ensures.refused accepted),
)
