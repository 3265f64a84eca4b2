use Rattle.std.proofs.Common.{◌≡◌, filter, take}
use Rattle.sok_corral.specs.Fencing.{is_in}
use Rattle.sok_corral.proofs.lone.choose.Given as goal

abbrev pub invariant-loop-square : goal.invariant-loop-square
invariant-loop-square l = l.list.items ≡ filter (is_in l.board l.set) (take l.square-index l.boxes)
