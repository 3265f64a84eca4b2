use Rattle.std.proofs.Common.{ℕ, ◌<◌}
use Rattle.sok_rules.specs.declared.cell.Dir.{Dir}
use Rattle.sok_lift.specs.Checked.{HoldsWalk}
use Rattle.sok_lift.proofs.check.are_walks_held.Given as goal

abbrev pub invariant-loop-player : goal.invariant-loop-player
invariant-loop-player l = (k : ℕ) → k < l.player → (d : Dir) → HoldsWalk l.board l.lifts d k
