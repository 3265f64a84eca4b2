use Rattle.std.proofs.Common.{◌≡◌, take, count_by, sum_by}
use Rattle.sok_rules.specs.Squares.{is_man, is_astray}
use Rattle.sok_rules.proofs.level.census_of.Given as goal

abbrev pub invariant-loop-row : goal.invariant-loop-row
invariant-loop-row l = record {
  men : l.men ≡ sum_by (λ row. count_by is_man row.items) (take l.row-index l.rows);
  astray : l.astray ≡ sum_by (λ row. count_by is_astray row.items) (take l.row-index l.rows);
}
