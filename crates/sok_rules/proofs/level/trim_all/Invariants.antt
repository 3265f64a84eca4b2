use Rattle.std.proofs.Common.{◌≡◌, ◌++◌, map, take, drop}
use Rattle.sok_rules.specs.Levels.{cells_of, trimmed}
use Rattle.sok_rules.proofs.level.trim_all.Given as goal

abbrev pub invariant-loop-row : goal.invariant-loop-row
invariant-loop-row l = cells_of l.row-items ≡ map trimmed (take l.row-index (cells_of l.fn.rows.items)) ++ drop l.row-index (cells_of l.fn.rows.items)
