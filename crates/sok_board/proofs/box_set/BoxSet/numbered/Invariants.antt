use Rattle.std.proofs.Common.{◌≡◌, take}
use Rattle.sok_board.proofs.box_set.BoxSet.numbered.Given as goal

abbrev pub invariant-loop-number : goal.invariant-loop-number
invariant-loop-number l = l.squares.items ≡ take l.number-index l.numbers
