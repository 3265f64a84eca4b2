use Rattle.std.proofs.Common.{length}
use Rattle.sok_rules.specs.Levels.{cells_of}
use Rattle.sok_text.proofs.Unpacking.{AreUnpacked}
use Rattle.sok_text.proofs.packed.unpack.Given as goal

abbrev pub invariant-loop-rows : goal.invariant-loop-rows
invariant-loop-rows l = AreUnpacked l.line l.left (cells_of l.rows.items)

abbrev pub decreases-loop-rows : goal.decreases-loop-rows
decreases-loop-rows l = length l.left
