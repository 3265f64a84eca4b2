use Rattle.sok_rules.specs.Squares.{is_goal}
use Rattle.std.proofs.Common.{◌∙◌}
use Rattle.sok_play.proofs.Measures.{count_in-cells_of, count_in-fits}
use Rattle.sok_play.proofs.measure.goals.Goals as goal

pub goals_of-requires : goal.goals_of-requires
goals_of-requires c = count_in-fits is_goal c.rows.result.now c.args.level.now c.rows.ensures.cells c.rows.ensures.proper

pub returns : goal.returns
returns c = c.goals_of.ensures ∙ count_in-cells_of is_goal c.rows.result.now c.args.level.now c.rows.ensures.cells
