use Rattle.std.proofs.Common.{Contains, take}
use Rattle.sok_field.specs.Numbers.{Draws}
use Rattle.sok_region.proofs.layout.put_boxes.Given as goal

abbrev pub invariant-loop-square : goal.invariant-loop-square
invariant-loop-square l = Draws l.board (Contains (take l.square-index l.boxes)) l.field
