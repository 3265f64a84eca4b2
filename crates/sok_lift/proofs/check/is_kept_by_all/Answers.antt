use Rattle.std.proofs.Common.{below_more}
use Rattle.sok_lift.proofs.check.is_kept_by_all.Goals as goal

pub loop-one-preserved : goal.loop-one-preserved
loop-one-preserved c = below_more _ _ c.loop-one.invariant (c.is_kept_with.ensures.0 c.if-not-is_kept_with.false)
