use Rattle.std.proofs.Common.{◌≡◌, ◌≤◌, length, take}
use Rattle.sok_rules.specs.Levels.{trimmed}
use Rattle.sok_rules.proofs.level.length_without_floor.Given as goal

abbrev pub invariant-loop-kept : goal.invariant-loop-kept
invariant-loop-kept l = record {
  within : l.kept ≤ length l.row;
  rest_is_floor : trimmed l.row ≡ trimmed (take l.kept l.row);
}

abbrev pub decreases-loop-kept : goal.decreases-loop-kept
decreases-loop-kept l = l.kept
