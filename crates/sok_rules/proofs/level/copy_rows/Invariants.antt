use Rattle.std.proofs.Common.{◌≡◌, take}
use Rattle.sok_rules.specs.Levels.{cells_of}
use Rattle.sok_rules.proofs.level.copy_rows.Given as goal

abbrev pub invariant-loop-row : goal.invariant-loop-row
invariant-loop-row l = cells_of l.copy.items ≡ take l.row-index (cells_of l.rows)
