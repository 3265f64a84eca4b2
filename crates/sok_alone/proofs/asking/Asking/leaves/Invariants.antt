use Rattle.std.proofs.Common.{All, Contains, take}
use Rattle.sok_board.specs.BoxSets.{put_in_order}
use Rattle.sok_alone.proofs.asking.Asking.leaves.Given as goal

abbrev pub invariant-loop-square : goal.invariant-loop-square
invariant-loop-square l = All (Contains (put_in_order l.self.from l.self.to l.self.boxes.now)) (take l.square-index l.squares)
