use Rattle.std.proofs.Common.{◌≡◌, take}
use Rattle.sok_search.proofs.certifying.widen.Given as goal

abbrev pub invariant-loop-square : goal.invariant-loop-square
invariant-loop-square l = l.numbers.items ≡ take l.square-index l.squares
