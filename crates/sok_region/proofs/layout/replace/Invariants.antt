use Rattle.std.proofs.Common.{◌≡◌, ◌++◌, take, drop}
use Rattle.sok_region.specs.Layouts.{replaced}
use Rattle.sok_region.proofs.layout.replace.Given as goal

abbrev pub invariant-loop-square : goal.invariant-loop-square
invariant-loop-square l = l.squares ≡ replaced l.from l.to (take l.square-index l.initial.squares) ++ drop l.square-index l.initial.squares
