use Rattle.sok_price.proofs.Words.{AreMarksOf}
use Rattle.sok_price.proofs.settle.mark_boxes.Given as goal

abbrev pub invariant-loop-square : goal.invariant-loop-square
invariant-loop-square l = AreMarksOf l.marks l.boxes l.square-index
