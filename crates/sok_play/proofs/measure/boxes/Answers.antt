use Rattle.sok_rules.specs.Squares.{is_box}
use Rattle.std.proofs.Common.{◌∙◌}
use Rattle.sok_play.proofs.Measures.{count_in-cells_of, count_in-fits}
use Rattle.sok_play.proofs.measure.boxes.Goals as goal

pub boxes_of-requires : goal.boxes_of-requires
boxes_of-requires c = count_in-fits is_box c.rows.result.now c.args.level.now c.rows.ensures.cells c.rows.ensures.proper

pub returns : goal.returns
returns c = c.boxes_of.ensures ∙ count_in-cells_of is_box c.rows.result.now c.args.level.now c.rows.ensures.cells
