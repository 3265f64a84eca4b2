use Rattle.std.proofs.Common.{subst, sym}
use Rattle.sok_board.specs.Area.{AreGoals}
use Rattle.sok_closed.proofs.AllOnGoals.{AreGoals-solves, AreGoals-solved}
use Rattle.sok_closed.proofs.solved.is_solved.Goals as goal

pub returns : goal.returns
returns c = λ player. (
  (λ yes. AreGoals-solves c.args.board.now c.are_goals.ensures.accepted player c.args.boxes.now
      (subst (AreGoals c.args.board.now) c.list.ensures.list (c.are_goals.ensures.goals.0 yes))),
  λ solved. c.are_goals.ensures.goals.1 (subst (AreGoals c.args.board.now) (sym c.list.ensures.list)
      (AreGoals-solved c.args.board.now player c.args.boxes.now solved)),
)
