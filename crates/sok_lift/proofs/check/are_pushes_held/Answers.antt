use Rattle.std.proofs.Common.{below_more}
use Rattle.sok_lift.proofs.check.are_pushes_held.Goals as goal

pub loop-square-preserved : goal.loop-square-preserved
loop-square-preserved c = below_more _ _ c.loop-square.invariant (c.are_held_from.ensures c.if-not-are_held_from.false)
