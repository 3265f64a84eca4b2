use Rattle.std.proofs.Common.{below_more}
use Rattle.sok_lift.proofs.check.is_kept_with.Goals as goal

pub loop-other-preserved : goal.loop-other-preserved
loop-other-preserved c = below_more _ _ c.loop-other.invariant (c.is_kept.ensures.0 c.if-not-is_kept.false)
