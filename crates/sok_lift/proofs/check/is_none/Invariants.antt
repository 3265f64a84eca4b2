use Rattle.std.proofs.Common.{ℕ, ◌≡◌, ◌<◌}
use Rattle.sok_lift.specs.Numbers.{lift_in}
use Rattle.sok_lift.proofs.check.is_none.Given as goal

abbrev pub invariant-loop-player : goal.invariant-loop-player
invariant-loop-player l = (k : ℕ) → k < l.player → lift_in l.lifts k l.one l.other ≡ 0
