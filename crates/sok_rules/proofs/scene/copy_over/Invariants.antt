use Rattle.std.proofs.Common.{◌≡◌, ◌++◌, length, map, take, drop}
use Rattle.sok_rules.specs.Levels.{cells_of}
use Rattle.sok_rules.proofs.scene.copy_over.Given as goal

abbrev pub invariant-loop-place : goal.invariant-loop-place
invariant-loop-place l = record {
  written : cells_of l.cells.items ≡ take l.place (cells_of l.rows) ++ drop l.place (cells_of l.initial.cells.items);
  shape : map (λ row. length row) (cells_of l.cells.items) ≡ map (λ row. length row) (cells_of l.rows);
}
