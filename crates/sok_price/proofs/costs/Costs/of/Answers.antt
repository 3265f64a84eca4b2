use Rattle.sok_price.proofs.CostRows.{AreTold-more}
use Rattle.sok_price.proofs.costs.Costs.of.Goals as goal

pub loop-square-preserved : goal.loop-square-preserved
loop-square-preserved c = AreTold-more c.loop-square.invariant c.in_ok-entries.ensures
