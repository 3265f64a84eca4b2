use Rattle.std.proofs.Common.{◌≡◌, ◌++◌, drop}
use Rattle.sok_board.specs.BoxSets.{put_in_order}
use Rattle.sok_board.proofs.Putting.{left_to_put}
use Rattle.sok_board.proofs.box_set.put_in_order.Given as goal

abbrev pub invariant-loop-square : goal.invariant-loop-square
invariant-loop-square l = l.after.items ++ left_to_put l.put l.from l.to (drop l.square-index l.list) ≡ put_in_order l.from l.to l.list
