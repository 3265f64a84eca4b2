use Rattle.std.proofs.Common.{below_more}
use Rattle.sok_bar.proofs.bound.is_fair.Goals as goal

pub loop-goal-preserved : goal.loop-goal-preserved
loop-goal-preserved c = below_more _ _ c.loop-goal.invariant (c.is_affordable.ensures.0 c.if-not-is_affordable.false)
