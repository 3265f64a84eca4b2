use Rattle.std.proofs.Common.{length}
use Rattle.sok_text.proofs.Unpacking.{IsUnpacked}
use Rattle.sok_text.proofs.packed.row_of.Given as goal

abbrev pub invariant-loop-left : goal.invariant-loop-left
invariant-loop-left l = IsUnpacked l.part l.left l.row.items

abbrev pub decreases-loop-left : goal.decreases-loop-left
decreases-loop-left l = length l.left
