use Rattle.std.proofs.Common.{ℕ, ◌<◌}
use Rattle.sok_lift.specs.Checked.{IsSpared}
use Rattle.sok_lift.proofs.check.is_held_by_all.Given as goal

abbrev pub invariant-loop-other : goal.invariant-loop-other
invariant-loop-other l = (k : ℕ) → k < l.other → IsSpared l.lifts l.player l.from l.to l.waste k
