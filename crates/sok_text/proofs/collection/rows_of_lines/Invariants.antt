use Rattle.std.proofs.Common.{length, ◌≡◌, ◌++◌, map}
use Rattle.std.specs.List.{filter_map}
use Rattle.std.specs.Str.Lines.{lines}
use Rattle.sok_rules.specs.Levels.{cells_of}
use Rattle.sok_text.specs.Xsb.{cell_of}
use Rattle.sok_text.proofs.collection.rows_of_lines.Given as goal

abbrev pub invariant-loop-rows : goal.invariant-loop-rows
invariant-loop-rows l = map (filter_map cell_of) (lines l.board) ≡ cells_of l.rows.items ++ map (filter_map cell_of) (lines l.rest)

abbrev pub decreases-loop-rows : goal.decreases-loop-rows
decreases-loop-rows l = length l.rest
