use Rattle.sok_price.proofs.Words.{AreRead, take}
use Rattle.sok_price.proofs.reading.read_boxes.Given as goal

abbrev pub invariant-loop-square : goal.invariant-loop-square
invariant-loop-square l = AreRead l.amount l.rows l.search (take l.square-index l.boxes) l.u.items l.goal_of.items
