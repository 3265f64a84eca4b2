use Rattle.std.proofs.Common.{◌<◌, ◌-◌}
use Rattle.sok_field.proofs.Rounds.{AreSpread}
use Rattle.sok_field.proofs.spread.is_closed.Given as goal

abbrev pub invariant-loop-r : goal.invariant-loop-r
invariant-loop-r l = (0 < l.r) × AreSpread l.seen l.free l.seen l.r

abbrev pub decreases-loop-r : goal.decreases-loop-r
decreases-loop-r l = l.rows - l.r

abbrev pub invariant-loop-r-2 : goal.invariant-loop-r-2
invariant-loop-r-2 l = AreSpread l.seen l.free l.seen l.r

abbrev pub decreases-loop-r-2 : goal.decreases-loop-r-2
decreases-loop-r-2 l = l.rows - l.r
