use Rattle.std.proofs.Common.{◌≡◌, length}
use Rattle.std.specs.List.{list_all}
use Rattle.sok_text.specs.Packed.{is_mark, marks_of}
use Rattle.sok_text.proofs.packed.is_encoded.Given as goal

abbrev pub invariant-loop-left : goal.invariant-loop-left
invariant-loop-left l = list_all is_mark (marks_of l.line) ≡ list_all is_mark (marks_of l.left)

abbrev pub decreases-loop-left : goal.decreases-loop-left
decreases-loop-left l = length l.left
