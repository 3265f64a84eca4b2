use Rattle.std.proofs.Common.{length}
use Rattle.sok_text.proofs.Tokens.{IsReadTo}
use Rattle.sok_text.proofs.lurd.read_lurd.Given as goal

abbrev pub invariant-loop-left : goal.invariant-loop-left
invariant-loop-left l = IsReadTo l.text l.left l.letters.items

abbrev pub decreases-loop-left : goal.decreases-loop-left
decreases-loop-left l = length l.left
