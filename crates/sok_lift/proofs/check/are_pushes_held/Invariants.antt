use Rattle.std.proofs.Common.{ℕ, ◌<◌}
use Rattle.sok_rules.specs.declared.cell.Dir.{Dir}
use Rattle.sok_lift.specs.Checked.{HoldsPush}
use Rattle.sok_lift.proofs.check.are_pushes_held.Given as goal

abbrev pub invariant-loop-square : goal.invariant-loop-square
invariant-loop-square l = (k : ℕ) → k < l.square → (d : Dir) → HoldsPush l.setting.board.now l.lifts d k
