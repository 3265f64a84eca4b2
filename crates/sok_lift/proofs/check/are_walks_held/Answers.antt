use Rattle.std.proofs.Common.{below_more}
use Rattle.sok_lift.proofs.check.are_walks_held.Goals as goal

pub loop-player-preserved : goal.loop-player-preserved
loop-player-preserved c = below_more _ _ c.loop-player.invariant (c.are_walks_held_from.ensures c.if-not-are_walks_held_from.false)
