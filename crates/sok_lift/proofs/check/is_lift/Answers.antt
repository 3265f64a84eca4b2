use Rattle.sok_lift.proofs.Held.{AreLifts-held}
use Rattle.sok_lift.proofs.check.is_lift.Goals as goal

pub returns : goal.returns
returns c = λ held. AreLifts-held c.args.setting.now.board.now c.args.lifts.now (c.are_solved_none.ensures c.if-not-are_solved_none.false)
    (c.are_walks_held.ensures c.if-not-are_walks_held.false) (c.are_pushes_held.ensures held)
