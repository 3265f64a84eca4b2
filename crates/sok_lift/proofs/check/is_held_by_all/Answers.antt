use Rattle.std.proofs.Common.{below_more}
use Rattle.sok_lift.proofs.check.is_held_by_all.Goals as goal

pub loop-other-preserved : goal.loop-other-preserved
loop-other-preserved c = below_more _ _ c.loop-other.invariant (c.is_spared.ensures.0 c.if-not-is_spared.false)
