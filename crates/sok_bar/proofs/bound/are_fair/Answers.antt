use Rattle.std.proofs.Common.{below_more}
use Rattle.sok_bar.proofs.bound.are_fair.Goals as goal

pub loop-place-preserved : goal.loop-place-preserved
loop-place-preserved c = below_more _ _ c.loop-place.invariant (c.is_fair.ensures.0 c.if-not-is_fair.false)
