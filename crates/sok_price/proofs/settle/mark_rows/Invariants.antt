use Rattle.sok_price.proofs.Words.{AreMarksOf}
use Rattle.sok_price.proofs.settle.mark_rows.Given as goal

abbrev pub invariant-loop-row : goal.invariant-loop-row
invariant-loop-row l = AreMarksOf l.marks l.rows l.row-index
